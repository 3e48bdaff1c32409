use Rattle.std.specs.Prelude.{◌≤◌, ◌+◌, length}
use Rattle.sql_grammar.specs.Tokens.{Sign}
use Rattle.sql_grammar.specs.Tree.{Last, More}
use Rattle.sql_grammar.specs.Lexing.{views}
use Rattle.sql_grammar.specs.Reading.{the}
use Rattle.sql_reader.specs.Lists.{with_signs}
use Rattle.sql_reader.proofs.Loops.{SoFar}
use Rattle.sql_reader.proofs.lists.chain.Given as goal

abbrev pub invariant-items : goal.invariant-items
invariant-items g l = record {
  so_far : SoFar Last (λ a u l. More a l) (the (Sign l.fn.sign)) g.T.Item.rule (λ x. tt {0}) g.T.Item.view (length (views l.fn.tokens))
      (g.T.Item.view l.first) l.more.items (views l.rest) (with_signs l.fn.sign g.T.Item.rule (views l.fn.tokens));
  shorter : length l.rest + length l.more.items ≤ length l.fn.tokens;
}

abbrev pub decreases-items : goal.decreases-items
decreases-items g l = length l.rest
