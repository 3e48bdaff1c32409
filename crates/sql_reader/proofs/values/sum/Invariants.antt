use Rattle.std.specs.Prelude.{◌≤◌, ◌+◌, length}
use Rattle.sql_grammar.specs.Tree.{Only, Then}
use Rattle.sql_grammar.specs.Lexing.{views}
use Rattle.sql_grammar.specs.Views.{chain_of}
use Rattle.sql_grammar.specs.Reading.{term, add_sign, sum}
use Rattle.sql_reader.proofs.Loops.{SoFar}
use Rattle.sql_reader.proofs.values.sum.Given as goal

abbrev pub invariant-signs : goal.invariant-signs
invariant-signs l = record {
  so_far : SoFar Only Then add_sign (λ k. term) (λ t. t.sign) (λ t. chain_of t.term) (length (views l.fn.tokens)) (chain_of l.first) l.more.items
      (views l.rest) (sum (views l.fn.tokens));
  shorter : length l.rest + length l.more.items ≤ length l.fn.tokens;
}

abbrev pub decreases-signs : goal.decreases-signs
decreases-signs l = length l.rest
