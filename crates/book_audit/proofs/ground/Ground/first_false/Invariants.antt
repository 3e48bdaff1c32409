use Rattle.std.proofs.Common.{ℕ, ◌-◌, ◌<◌, ◌≤◌}
use Rattle.rank_facts.specs.Facts.{IsTrueAt}
use Rattle.fact_books.specs.Runs.{fact_in}
use Rattle.book_audit.specs.Grounds.{IsGround}
use Rattle.book_audit.proofs.ground.Ground.first_false.Given as goal

-- what the run says is true at each rank before this one
abbrev pub invariant-loop-rank : goal.invariant-loop-rank
invariant-loop-rank l = record {
  ground : IsGround l.spec l.outcomes l.self;
  from : l.run.first ≤ l.rank;
  before : (r : ℕ) → l.run.first ≤ r → r < l.rank → IsTrueAt l.spec.run r (fact_in l.outcomes l.run.tag);
}

abbrev pub decreases-loop-rank : goal.decreases-loop-rank
decreases-loop-rank l = l.end - l.rank
