-- Which statements mix numbers and texts.
use Rattle.std.specs.Prelude.{ℕ, Bool, true, false, ◌||◌, List, [], ◌∷◌, Option, Some, None}
use Rattle.std.specs.List.{list_any}
use Rattle.lock_modes.specs.declared.value.Value.{Value}
use Rattle.lock_modes.specs.declared.value.Value.TheVariants as value
use Rattle.bound_statements.specs.Conditions.{told}
use Rattle.bound_statements.specs.declared.condition.Condition.{Condition, Condition-F as Level}
use Rattle.bound_statements.specs.declared.expression.Expression.{Expression}
use Rattle.bound_statements.specs.declared.expression.Operand.{Operand}
use Rattle.bound_statements.specs.declared.expression.Operand.TheVariants.{Literal, Column}
use Rattle.bound_statements.specs.declared.expression.Product.{Product}
use Rattle.bound_statements.specs.declared.expression.SignedProduct.{SignedProduct}
use Rattle.bound_statements.specs.declared.statement.Aggregate.{Aggregate}
use Rattle.bound_statements.specs.declared.statement.Aggregate.TheVariants.{Count, Sum}
use Rattle.bound_statements.specs.declared.statement.Assignment.{Assignment}
use Rattle.bound_statements.specs.declared.statement.Output.{Output}
use Rattle.bound_statements.specs.declared.statement.Output.TheVariants.{Columns, Aggregates}
use Rattle.binding_model.specs.declared.tables.ColumnType.{ColumnType}
use Rattle.binding_model.specs.declared.tables.ColumnType.TheVariants.{Number, Text}
use Rattle.binding_model.specs.declared.tables.Table.{Table}
use Rattle.binding_model.specs.KeyParts.{single}
use Rattle.binding_model.specs.Tables.{type_of}

abbrev pub differ : ColumnType → ColumnType → Bool
differ Number Number = false
differ Number Text = true
differ Text Number = true
differ Text Text = false

abbrev pub value_type : Value → ColumnType
value_type (value.Int z) = Number
value_type (value.Text text) = Text

abbrev pub operand_type : Table → Operand → ColumnType
operand_type t (Literal v) = value_type v
operand_type t (Column c) = type_of t c

abbrev pub is_text : ColumnType → Bool
is_text Number = false
is_text Text = true

abbrev pub any_text : Table → List Operand → Bool
any_text t os = list_any (λ o. is_text (operand_type t o)) os

-- a text among the operands
abbrev pub product_has_text : Table → Product → Bool
product_has_text t p = is_text (operand_type t p.first) || any_text t p.more

abbrev pub any_has_text : Table → List SignedProduct → Bool
any_has_text t ss = list_any (λ (s : SignedProduct). product_has_text t s.product) ss

abbrev pub has_text : Table → Expression → Bool
has_text t e = product_has_text t e.first || any_has_text t e.more

-- an operand alone has its type, and a sum, difference or product is a number
abbrev pub type_by : Table → Option Operand → ColumnType
type_by t (Some o) = operand_type t o
type_by t None = Number

abbrev pub expression_type : Table → Expression → ColumnType
expression_type t e = type_by t (single e)

-- arithmetic on a text
abbrev pub mixes_by : Option Operand → Bool → Bool
mixes_by (Some o) text = false
mixes_by None text = text

abbrev pub expression_mixes : Table → Expression → Bool
expression_mixes t e = mixes_by (single e) (has_text t e)

abbrev pub comparison_mixes : Table → Expression → Expression → Bool
comparison_mixes t a b = expression_mixes t a || expression_mixes t b || differ (expression_type t a) (expression_type t b)

-- whether a level mixes them, by whether the conditions in it do
abbrev pub level_mixes : Table → Level Bool → Bool
level_mixes t Level.Always = false
level_mixes t (Level.Compares a comparison b) = comparison_mixes t a b
level_mixes t (Level.Not c) = c
level_mixes t (Level.And a b) = a || b
level_mixes t (Level.Or a b) = a || b

abbrev pub condition_mixes : Table → Condition → Bool
condition_mixes t c = told (level_mixes t) c

abbrev pub assignment_mixes : Table → Assignment → Bool
assignment_mixes t a = expression_mixes t a.value || differ (type_of t a.column) (expression_type t a.value)

-- the sum of a text
abbrev pub aggregate_mixes : Table → Aggregate → Bool
aggregate_mixes t Count = false
aggregate_mixes t (Sum c) = is_text (type_of t c)

abbrev pub any_mixes : Table → List Aggregate → Bool
any_mixes t as' = list_any (aggregate_mixes t) as'

abbrev pub output_mixes : Table → Output → Bool
output_mixes t (Columns cs) = false
output_mixes t (Aggregates as') = any_mixes t as'

-- a value of another type than its column, as far as both lists go
abbrev pub row_mixes : Table → List ℕ → List Value → Bool
row_mixes t [] vs = false
row_mixes t (c ∷ cs) [] = false
row_mixes t (c ∷ cs) (v ∷ vs) = differ (type_of t c) (value_type v) || row_mixes t cs vs
