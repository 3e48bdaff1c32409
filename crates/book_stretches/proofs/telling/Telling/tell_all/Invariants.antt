use Rattle.std.proofs.Common.{◌-◌, ◌≤◌}
use Rattle.fact_books.specs.Books.{IsKept}
use Rattle.fact_books.specs.Sweep.{IsSweeping}
use Rattle.book_stretches.specs.Sweep.{end, IsOfSame, IsTelling}
use Rattle.book_stretches.proofs.telling.Telling.tell_all.Given as goal

-- all ranks up to here are told, and the runs in hand and those of the rest say all from here on
abbrev pub invariant-loop-alloc : goal.invariant-loop-alloc
invariant-loop-alloc l = record {
  telling : IsTelling l.self;
  same : IsOfSame l.initial.self l.self;
  kept : IsKept l.self.outcomes.now l.self.runs.now;
  sweeping : IsSweeping l.self.outcomes.now l.self.runs.now (end l.self) l.active.items l.next;
  few : end l.self ≤ l.ranks;
}

abbrev pub decreases-loop-alloc : goal.decreases-loop-alloc
decreases-loop-alloc l = l.ranks - end l.self
