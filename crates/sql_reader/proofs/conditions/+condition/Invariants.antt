use Rattle.std.specs.Prelude.{codes, ◌≤◌, ◌+◌, ◌*◌, length}
use Rattle.sql_grammar.specs.Tokens.{Key}
use Rattle.sql_grammar.specs.Tree.{Single, And, Alone, Or}
use Rattle.sql_grammar.specs.Lexing.{views}
use Rattle.sql_grammar.specs.Views.{view_atom, view_part}
use Rattle.sql_grammar.specs.Reading.{the, atom, part_of, condition_of}
use Rattle.sql_reader.proofs.Loops.{SoFar}
use Rattle.sql_reader.proofs.conditions.+condition.Given as goal

abbrev pub decreases-atom : goal.decreases-atom
decreases-atom l = 4 * l.levels

abbrev pub decreases-part_of : goal.decreases-part_of
decreases-part_of l = 4 * l.levels + 1

abbrev pub decreases-condition_of : goal.decreases-condition_of
decreases-condition_of l = 4 * l.levels + 2

abbrev pub decreases-negated : goal.decreases-negated
decreases-negated l = 4 * l.levels + 3

abbrev pub decreases-group : goal.decreases-group
decreases-group l = 4 * l.levels + 3

abbrev pub invariant-part_of-ands : goal.invariant-part_of-ands
invariant-part_of-ands l = record {
  so_far : SoFar Single (λ a u p. And a p) (the (Key (codes "and"))) (λ k. atom l.fn.levels) (λ x. tt {0}) view_atom (length (views l.fn.tokens))
      (view_atom l.first) l.more.items (views l.rest) (part_of (atom l.fn.levels) (views l.fn.tokens));
  shorter : length l.rest + length l.more.items ≤ length l.fn.tokens;
}

abbrev pub decreases-part_of-ands : goal.decreases-part_of-ands
decreases-part_of-ands l = length l.rest

abbrev pub invariant-condition_of-ors : goal.invariant-condition_of-ors
invariant-condition_of-ors l = record {
  so_far : SoFar Alone (λ p u c. Or p c) (the (Key (codes "or"))) (λ k. part_of (atom l.fn.levels)) (λ x. tt {0}) view_part (length (views l.fn.tokens))
      (view_part l.first) l.more.items (views l.rest) (condition_of (atom l.fn.levels) (views l.fn.tokens));
  shorter : length l.rest + length l.more.items ≤ length l.fn.tokens;
}

abbrev pub decreases-condition_of-ors : goal.decreases-condition_of-ors
decreases-condition_of-ors l = length l.rest
