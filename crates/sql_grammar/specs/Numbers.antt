-- The numbers of literals.
use Rattle.std.specs.Prelude.{ℕ, Bool, true, false, ◌^◌, nat_le, nat_lt, ℤ, pos, Option, Some, None, if◌then◌else◌}
use Rattle.std.proofs.Math.IntN.{neg_ℤ}
use Rattle.sql_grammar.specs.declared.expression.Literal.{Literal}
use Rattle.sql_grammar.specs.declared.expression.Literal.TheVariants.{Whole, Quoted}

-- the number of this sign, if it is one of i64
abbrev pub whole_of : Bool → ℕ → Option ℤ
whole_of true digits = if nat_le digits (2 ^ 63) then Some (neg_ℤ (pos digits)) else None
whole_of false digits = if nat_lt digits (2 ^ 63) then Some (pos digits) else None

abbrev pub number_of : Literal → Option ℤ
number_of (Whole negative digits) = whole_of negative digits
number_of (Quoted bytes) = None
