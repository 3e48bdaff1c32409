use Rattle.std.proofs.Common.{◌≡◌, ◌++◌, ◌≤◌, length, drop}
use Rattle.spec_binding.proofs.ShapeLemmas.{counts_of}
use Rattle.spec_binding.proofs.shapes.counts.Given as goal

abbrev pub invariant-loop-session : goal.invariant-loop-session
invariant-loop-session l = record {
  so_far : l.counts.items ++ counts_of (drop l.session-index l.sessions) ≡ counts_of l.sessions;
  short : length l.counts.items ≤ l.session-index;
}
