-- The key that a condition names.
use Rattle.std.specs.Prelude.{ℕ, ◌==◌, List, [], ◌∷◌, Option, Some, None, if◌then◌else◌}
use Rattle.lock_modes.specs.declared.value.Value.{Value}
use Rattle.bound_statements.specs.declared.condition.Comparison.{Comparison}
use Rattle.bound_statements.specs.declared.condition.Comparison.TheVariants.{Same, Differs, Below, AtMost, Above, AtLeast}
use Rattle.bound_statements.specs.Conditions.{told}
use Rattle.bound_statements.specs.declared.condition.Condition.{Condition, Condition-F as Level}
use Rattle.bound_statements.specs.declared.expression.Expression.{Expression}
use Rattle.bound_statements.specs.declared.expression.Operand.{Operand}
use Rattle.bound_statements.specs.declared.expression.Operand.TheVariants.{Literal, Column}
use Rattle.bound_statements.specs.declared.expression.SignedProduct.{SignedProduct}

-- an operand that stands alone
abbrev pub single_of : Operand → List Operand → List SignedProduct → Option Operand
single_of o [] [] = Some o
single_of o [] (s ∷ ss) = None
single_of o (p ∷ ps) ss = None

abbrev pub single : Expression → Option Operand
single e = single_of e.first.first e.first.more e.more

-- the literal, where the column is the key
abbrev pub literal_at : ℕ → Option Operand → Option Operand → Option Value
literal_at key (Some (Column c)) (Some (Literal v)) = if c == key then Some v else None
literal_at key (Some (Column c)) (Some (Column d)) = None
literal_at key (Some (Column c)) None = None
literal_at key (Some (Literal v)) right = None
literal_at key None right = None

-- the key that a comparison names, with the column on the left
abbrev pub key_compared : ℕ → Comparison → Option Operand → Option Operand → Option Value
key_compared key Same left right = literal_at key left right
key_compared key Differs left right = None
key_compared key Below left right = None
key_compared key AtMost left right = None
key_compared key Above left right = None
key_compared key AtLeast left right = None

abbrev pub or_next : {A : Type 0} → Option A → Option A → Option A
or_next None o = o
or_next (Some x) o = Some x

-- the key that a level names, by the keys that the conditions in it name
abbrev pub level_key : ℕ → Level (Option Value) → Option Value
level_key key Level.Always = None
level_key key (Level.Compares a comparison b) = key_compared key comparison (single a) (single b)
level_key key (Level.Not c) = None
level_key key (Level.And a b) = or_next a b
level_key key (Level.Or a b) = None

-- the key that the first of the parts names that are joined by AND
abbrev pub key_in : ℕ → Condition → Option Value
key_in key c = told (level_key key) c

abbrev pub key_of : Option ℕ → Condition → Option Value
key_of None c = None
key_of (Some key) c = key_in key c
