use Rattle.std.proofs.Common.{◌-◌, ◌≤◌}
use Rattle.book_stretches.specs.Sweep.{end, IsOfSame, IsTelling}
use Rattle.book_stretches.proofs.telling.Telling.tell_run.Given as goal

-- the same is told, has not gone back, and is not past the end
abbrev pub invariant-loop-run : goal.invariant-loop-run
invariant-loop-run l = record {
  telling : IsTelling l.self;
  same : IsOfSame l.initial.self l.self;
  on : end l.initial.self ≤ end l.self;
  few : end l.self ≤ l.to;
}

abbrev pub decreases-loop-run : goal.decreases-loop-run
decreases-loop-run l = l.to - end l.self
