use Rattle.std.proofs.Common.{take}
use Rattle.asked_classes.specs.Filters.{AreMeant}
use Rattle.asked_classes.proofs.filters.filters_of.Given as goal

-- the filters before this one are meant so
abbrev pub invariant-loop-place : goal.invariant-loop-place
invariant-loop-place l = AreMeant l.spec l.sample (take l.place l.wanted) l.filters.items
