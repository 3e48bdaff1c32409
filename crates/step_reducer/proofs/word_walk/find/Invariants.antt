use Rattle.std.proofs.Common.{◌≡◌, ◌≤◌}
use Rattle.perm_ranks.specs.Words.{total}
use Rattle.step_reducer.specs.Walks.{IsAt}
use Rattle.step_reducer.proofs.word_walk.find.Given as goal

abbrev pub invariant-letter : goal.invariant-letter
invariant-letter l = record {
  at : IsAt l.reduce l.initial.stack.top.world.file l.at l.all l.stack;
  letters : total l.stack.top.block.left ≤ l.before;
  told : l.stack.told ≡ l.initial.stack.told;
}

abbrev pub decreases-letter : goal.decreases-letter
decreases-letter l = total l.stack.top.block.left
