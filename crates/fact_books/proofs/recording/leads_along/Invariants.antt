use Rattle.std.proofs.Common.{◌-◌, ◌≤◌}
use Rattle.fact_books.specs.Sweep.{leads_of}
use Rattle.fact_books.specs.Recording.{LeadsAlong}
use Rattle.fact_books.proofs.recording.leads_along.Given as goal

abbrev pub invariant-loop-rank : goal.invariant-loop-rank
invariant-loop-rank l = (l.first ≤ l.rank) × LeadsAlong (leads_of l.shape) l.place l.first l.rank

abbrev pub decreases-loop-rank : goal.decreases-loop-rank
decreases-loop-rank l = l.end - l.rank
