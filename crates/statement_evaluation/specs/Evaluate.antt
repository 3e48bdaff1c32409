-- Expressions and conditions over the values of a row.
use Rattle.std.specs.Prelude.{Bool, true, false, not, ◌&&◌, List, [], ◌∷◌, get_or, Option, Some, None, ℤ, pos, negsuc, ◌+ℤ◌, ◌-ℤ◌, ◌*ℤ◌, if◌then◌else◌, int_le}
use Rattle.std.proofs.Common.{Ordering, is_eq, is_lt, is_le, is_gt, is_ge}
use Rattle.lock_modes.specs.Value.{value_cmp}
use Rattle.lock_modes.specs.declared.value.Value.{Value}
use Rattle.lock_modes.specs.declared.value.Value.TheVariants.{Int, Text}
use Rattle.bound_statements.specs.declared.expression.Operand.{Operand}
use Rattle.bound_statements.specs.declared.expression.Operand.TheVariants.{Literal, Column}
use Rattle.bound_statements.specs.declared.expression.Product.{Product}
use Rattle.bound_statements.specs.declared.expression.AddSign.{AddSign}
use Rattle.bound_statements.specs.declared.expression.AddSign.TheVariants.{Plus, Minus}
use Rattle.bound_statements.specs.declared.expression.SignedProduct.{SignedProduct}
use Rattle.bound_statements.specs.declared.expression.Expression.{Expression}
use Rattle.bound_statements.specs.Conditions.{told}
use Rattle.bound_statements.specs.declared.condition.Comparison.{Comparison}
use Rattle.bound_statements.specs.declared.condition.Comparison.TheVariants.{Same, Differs, Below, AtMost, Above, AtLeast}
use Rattle.bound_statements.specs.declared.condition.Condition.{Condition, Condition-F as Level}

abbrev pub in_range : ℤ → Bool
in_range z = int_le (negsuc 9223372036854775807) z && int_le z (pos 9223372036854775807)

abbrev pub checked : ℤ → Option Value
checked z = if in_range z then Some (Int z) else None

abbrev pub on_numbers : (ℤ → ℤ → ℤ) → Option Value → Option Value → Option Value
on_numbers f None o = None
on_numbers f (Some (Text s)) o = None
on_numbers f (Some (Int x)) None = None
on_numbers f (Some (Int x)) (Some (Text t)) = None
on_numbers f (Some (Int x)) (Some (Int y)) = checked (f x y)

-- the values of what stands in an expression, or none where one leaves the range or arithmetic meets a text

abbrev pub operand_value : List Value → Operand → Option Value
operand_value row (Literal v) = Some v
operand_value row (Column c) = Some (get_or row c (Int (pos 0)))

-- times one operand after another, from the left
abbrev pub times_each : List Value → Option Value → List Operand → Option Value
times_each row v [] = v
times_each row v (o ∷ os) = times_each row (on_numbers (λ x y. x *ℤ y) v (operand_value row o)) os

abbrev pub product_value : List Value → Product → Option Value
product_value row p = times_each row (operand_value row p.first) p.more

abbrev pub plus_or_minus : AddSign → Option Value → Option Value → Option Value
plus_or_minus Plus v w = on_numbers (λ x y. x +ℤ y) v w
plus_or_minus Minus v w = on_numbers (λ x y. x -ℤ y) v w

-- plus or minus one product after another, from the left
abbrev pub plus_each : List Value → Option Value → List SignedProduct → Option Value
plus_each row v [] = v
plus_each row v (p ∷ ps) = plus_each row (plus_or_minus p.sign v (product_value row p.product)) ps

abbrev pub value_of : List Value → Expression → Option Value
value_of row e = plus_each row (product_value row e.first) e.more

abbrev pub passes : Comparison → Ordering → Bool
passes Same o = is_eq o
passes Differs o = not (is_eq o)
passes Below o = is_lt o
passes AtMost o = is_le o
passes Above o = is_gt o
passes AtLeast o = is_ge o

abbrev pub compared : Comparison → Option Value → Option Value → Option Bool
compared op None w = None
compared op (Some v) None = None
compared op (Some v) (Some w) = Some (passes op (value_cmp v w))

abbrev pub negated : Option Bool → Option Bool
negated None = None
negated (Some b) = Some (not b)

-- AND stops at the first false part, OR at the first true one
abbrev pub and_then : Option Bool → Option Bool → Option Bool
and_then None o = None
and_then (Some false) o = Some false
and_then (Some true) o = o

abbrev pub or_else : Option Bool → Option Bool → Option Bool
or_else None o = None
or_else (Some true) o = Some true
or_else (Some false) o = o

-- whether a row meets a level, by whether it meets the conditions in it
abbrev pub level_holds : List Value → Level (Option Bool) → Option Bool
level_holds row Level.Always = Some true
level_holds row (Level.Compares a op b) = compared op (value_of row a) (value_of row b)
level_holds row (Level.Not c) = negated c
level_holds row (Level.And c d) = and_then c d
level_holds row (Level.Or c d) = or_else c d

-- whether a row meets a condition, or none where a value has none
abbrev pub holds : List Value → Condition → Option Bool
holds row c = told (level_holds row) c
