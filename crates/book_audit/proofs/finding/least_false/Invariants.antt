use Rattle.std.proofs.Common.{take}
use Rattle.book_audit.specs.Grounds.{IsGround}
use Rattle.book_audit.specs.Findings.{said, IsLeast}
use Rattle.book_audit.proofs.finding.least_false.Given as goal

-- the least rank is that of the runs before this one
abbrev pub invariant-loop-i : goal.invariant-loop-i
invariant-loop-i l = record {
  ground : IsGround l.spec l.outcomes l.ground;
  least : IsLeast l.spec.run (said l.outcomes (take l.i l.runs)) l.least;
}
