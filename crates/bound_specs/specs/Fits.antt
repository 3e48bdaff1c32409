-- Which statements fit the tables: their columns are there, numbers and texts stand where they belong, and keys stay as they are.
use Rattle.std.specs.Prelude.{◌≡◌, ℕ, ◌<◌, ⊤, false, All, List, [], ◌∷◌, length, get_or, pos}
use Rattle.lock_modes.specs.declared.value.Value.{Value}
use Rattle.lock_modes.specs.declared.value.Value.TheVariants.{Int}
use Rattle.bound_statements.specs.declared.condition.Condition.{Condition, more_of-Condition, end_of-Condition}
use Rattle.bound_statements.specs.declared.condition.Condition.TheVariants.{Always, Compares, Not', And', Or'}
use Rattle.bound_statements.specs.declared.expression.Expression.{Expression}
use Rattle.bound_statements.specs.declared.expression.Operand.{Operand}
use Rattle.bound_statements.specs.declared.expression.Operand.TheVariants.{Literal, Column}
use Rattle.bound_statements.specs.declared.expression.Product.{Product}
use Rattle.bound_statements.specs.declared.expression.SignedProduct.{SignedProduct}
use Rattle.bound_statements.specs.declared.statement.Aggregate.{Aggregate}
use Rattle.bound_statements.specs.declared.statement.Aggregate.TheVariants.{Count, Sum}
use Rattle.bound_statements.specs.declared.statement.Assignment.{Assignment}
use Rattle.bound_statements.specs.declared.statement.Bound.{Bound}
use Rattle.bound_statements.specs.declared.statement.Bound.TheVariants.{Select, Insert, Update, Delete, Begin, Commit, Rollback, Lock, SetVariable}
use Rattle.bound_statements.specs.declared.statement.Output.{Output}
use Rattle.bound_statements.specs.declared.statement.Output.TheVariants.{Columns, Aggregates}
use Rattle.bound_statements.specs.declared.statement.SortKey.{SortKey}
use Rattle.binding_model.specs.declared.tables.ColumnType.{ColumnType}
use Rattle.binding_model.specs.declared.tables.ColumnType.TheVariants.{Number}
use Rattle.binding_model.specs.declared.tables.Table.{Table}
use Rattle.bound_specs.specs.Spec.{Spec, Step}
use Rattle.binding_model.specs.Statements.{sets_key}
use Rattle.binding_model.specs.Tables.{no_table, key_column, type_of, width}
use Rattle.binding_model.specs.Types.{value_type}

-- ---- what is taken of columns, where it is known which of them are there, and of which type

-- some type is that of the column
abbrev pub IsThere : (ℕ → ColumnType → Type 0) → ℕ → Type 0
IsThere Has c = (kind : ColumnType) × Has c kind

-- an operand of a type
abbrev pub OperandIs : (ℕ → ColumnType → Type 0) → ColumnType → Operand → Type 0
OperandIs Has kind (Literal v) = value_type v ≡ kind
OperandIs Has kind (Column c) = Has c kind

-- factors of a type: one alone has its own, and several are numbers
abbrev pub FactorsAre : (ℕ → ColumnType → Type 0) → ColumnType → Operand → List Operand → Type 0
FactorsAre Has kind o [] = OperandIs Has kind o
FactorsAre Has kind o (p ∷ ps) = (kind ≡ Number) × (OperandIs Has Number o × All (OperandIs Has Number) (p ∷ ps))

abbrev pub ProductIs : (ℕ → ColumnType → Type 0) → ColumnType → Product → Type 0
ProductIs Has kind p = FactorsAre Has kind p.first p.more

-- terms of a type: one alone has its own, and several are numbers
abbrev pub TermsAre : (ℕ → ColumnType → Type 0) → ColumnType → Product → List SignedProduct → Type 0
TermsAre Has kind p [] = ProductIs Has kind p
TermsAre Has kind p (s ∷ ss) = (kind ≡ Number) × (ProductIs Has Number p × All (λ (s : SignedProduct). ProductIs Has Number s.product) (s ∷ ss))

abbrev pub ExpressionIs : (ℕ → ColumnType → Type 0) → ColumnType → Expression → Type 0
ExpressionIs Has kind e = TermsAre Has kind e.first e.more

-- what holds of each comparison in a condition
abbrev pub EachComparison : (Expression → Expression → Type 0) → Condition → Type 0
EachComparison P Always = ⊤
EachComparison P (Compares a comparison b) = P a b
EachComparison P (Not' _ (more_of-Condition c end_of-Condition)) = EachComparison P c
EachComparison P (And' _ (more_of-Condition a end_of-Condition) _ (more_of-Condition b end_of-Condition)) = EachComparison P a × EachComparison P b
EachComparison P (Or' _ (more_of-Condition a end_of-Condition) _ (more_of-Condition b end_of-Condition)) = EachComparison P a × EachComparison P b

-- both sides have one type
abbrev pub ComparisonFits : (ℕ → ColumnType → Type 0) → Expression → Expression → Type 0
ComparisonFits Has a b = (kind : ColumnType) × (ExpressionIs Has kind a × ExpressionIs Has kind b)

abbrev pub ConditionFits : (ℕ → ColumnType → Type 0) → Condition → Type 0
ConditionFits Has c = EachComparison (ComparisonFits Has) c

-- sums are of numbers
abbrev pub AggregateFits : (ℕ → ColumnType → Type 0) → Aggregate → Type 0
AggregateFits Has Count = ⊤
AggregateFits Has (Sum c) = Has c Number

abbrev pub OutputFits : (ℕ → ColumnType → Type 0) → Output → Type 0
OutputFits Has (Columns cs) = All (IsThere Has) cs
OutputFits Has (Aggregates as') = All (AggregateFits Has) as'

abbrev pub SortKeyFits : (ℕ → ColumnType → Type 0) → SortKey → Type 0
SortKeyFits Has k = IsThere Has k.column

-- what is set is of the column's type
abbrev pub AssignmentFits : (ℕ → ColumnType → Type 0) → Assignment → Type 0
AssignmentFits Has a = (kind : ColumnType) × (Has a.column kind × ExpressionIs Has kind a.value)

-- what a statement takes of columns
abbrev pub Takes : (ℕ → ColumnType → Type 0) → Bound → Type 0
Takes Has (Select n key c by out lock) = OutputFits Has out × (All (SortKeyFits Has) by × ConditionFits Has c)
Takes Has (Update n key sets c) = All (AssignmentFits Has) sets × ConditionFits Has c
Takes Has (Delete n key c) = ConditionFits Has c
Takes Has (Insert n key rows) = ⊤
Takes Has (Lock n mode nowait) = ⊤
Takes Has (Begin level) = ⊤
Takes Has Commit = ⊤
Takes Has Rollback = ⊤
Takes Has SetVariable = ⊤

-- ---- tables, and rows

abbrev pub IsColumn : Table → ℕ → Type 0
IsColumn t c = c < width t

-- the table has the column, of the type
abbrev pub ColumnOf : Table → ℕ → ColumnType → Type 0
ColumnOf t c kind = IsColumn t c × (type_of t c ≡ kind)

-- the row has a value there, of the type
abbrev pub ValueIn : List Value → ℕ → ColumnType → Type 0
ValueIn row c kind = (c < length row) × (value_type (get_or row c (Int (pos 0))) ≡ kind)

-- a row has a value for each column, of its type
abbrev pub RowFits : Table → List Value → Type 0
RowFits t row = (length row ≡ width t) × ((c : ℕ) → IsColumn t c → value_type (get_or row c (Int (pos 0))) ≡ type_of t c)

-- the number is a table's, of which this holds
abbrev pub OfTable : List Table → ℕ → (Table → Type 0) → Type 0
OfTable tables n P = (n < length tables) × P (get_or tables n no_table)

-- what a statement takes of columns its table has; new rows have a value for each column, of its type, and lie at the table's key; no key is set
abbrev pub Fits : List Table → Bound → Type 0
Fits tables (Select n key c by out lock) = OfTable tables n (λ t. Takes (ColumnOf t) (Select n key c by out lock))
Fits tables (Insert n key rows) = OfTable tables n (λ t. (key ≡ key_column t) × All (RowFits t) rows)
Fits tables (Update n key sets c) = OfTable tables n (λ t. Takes (ColumnOf t) (Update n key sets c) × (sets_key (key_column t) sets ≡ false))
Fits tables (Delete n key c) = OfTable tables n (λ t. Takes (ColumnOf t) (Delete n key c))
Fits tables (Lock n mode nowait) = n < length tables
Fits tables (Begin level) = ⊤
Fits tables Commit = ⊤
Fits tables Rollback = ⊤
Fits tables SetVariable = ⊤

-- each statement of a spec fits the tables
pub record SpecFits (tables : List Table) (spec : Spec) : Type 0 where
  pub setups : All (All (Fits tables)) spec.setups
  pub session_setups : All (All (Fits tables)) spec.session_setups
  pub steps : All (λ (s : Step). All (Fits tables) s.statements) spec.steps
