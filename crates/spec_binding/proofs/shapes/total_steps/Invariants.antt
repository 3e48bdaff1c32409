use Rattle.std.proofs.Common.{◌≡◌, ◌+◌, ◌≤◌, drop}
use Rattle.perm_ranks.specs.Words.{total}
use Rattle.spec_binding.proofs.ShapeLemmas.{counts_of}
use Rattle.spec_binding.proofs.shapes.total_steps.Given as goal

abbrev pub invariant-loop-session : goal.invariant-loop-session
invariant-loop-session l = record {
  so_far : l.steps + total (counts_of (drop l.session-index l.sessions)) ≡ total (counts_of l.sessions);
  few : l.steps ≤ l.most;
}
