use Rattle.std.proofs.Common.{◌≡◌, drop}
use Rattle.sql_grammar.specs.Lexing.{value_of}
use Rattle.sql_grammar.proofs.cutting.value_of.Given as goal

abbrev pub invariant-loop-digit : goal.invariant-loop-digit
invariant-loop-digit l = value_of l.value (drop l.digit-index l.digits) ≡ value_of 0 l.digits
