use Rattle.std.proofs.Common.{◌-◌, ◌≤◌}
use Rattle.book_stretches.specs.Sweep.{end, IsOfSame, IsTelling}
use Rattle.book_stretches.proofs.telling.Telling.tell_each.Given as goal

-- the same is told, has not gone back, and is not past the end
abbrev pub invariant-loop-self : goal.invariant-loop-self
invariant-loop-self l = record {
  telling : IsTelling l.self;
  same : IsOfSame l.initial.self l.self;
  on : end l.initial.self ≤ end l.self;
  few : end l.self ≤ l.until;
}

abbrev pub decreases-loop-self : goal.decreases-loop-self
decreases-loop-self l = l.until - end l.self
