use Rattle.std.specs.Prelude.{suc, length}
use Rattle.sql_grammar.specs.Lexing.{views}
use Rattle.sql_grammar.specs.Text.{seen, statements_from}
use Rattle.sql_reader.proofs.TextLemmas.{SoFar}
use Rattle.sql_reader.proofs.reading.statements_of.Given as goal

abbrev pub invariant-block : goal.invariant-block
invariant-block l = SoFar l.turns (seen l.all.items) (views l.rest) (statements_from (suc (length (views l.fn.tokens))) (views l.fn.tokens))

abbrev pub decreases-block : goal.decreases-block
decreases-block l = l.turns
