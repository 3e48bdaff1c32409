use Rattle.std.proofs.Common.{◌≡◌, drop, false}
use Rattle.sql_grammar.specs.Lexing.{quoted}
use Rattle.sql_grammar.proofs.Pieces.{len_of, len_after}
use Rattle.sql_grammar.proofs.cutting.quoted_len.Given as goal

abbrev pub invariant-loop-n : goal.invariant-loop-n
invariant-loop-n l = len_after l.n l.after (drop l.n l.bytes) ≡ len_of (quoted false l.bytes)
