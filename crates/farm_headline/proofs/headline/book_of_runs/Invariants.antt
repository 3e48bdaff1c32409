use Rattle.farm_headline.specs.Gathering.{HoldsTheFirst}
use Rattle.farm_headline.proofs.headline.book_of_runs.Given as goal

-- the book has the job's facts and those of the plans before this one
abbrev pub invariant-loop-place : goal.invariant-loop-place
invariant-loop-place g l = HoldsTheFirst l.spec l.job l.plans l.place l.book
