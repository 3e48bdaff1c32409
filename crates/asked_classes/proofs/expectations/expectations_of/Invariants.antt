use Rattle.std.proofs.Common.{take}
use Rattle.asked_classes.specs.Looks.{AreExpectations}
use Rattle.asked_classes.proofs.expectations.expectations_of.Given as goal

-- the expectations before this one are asked so
abbrev pub invariant-loop-place : goal.invariant-loop-place
invariant-loop-place l = AreExpectations l.tables (take l.place l.wanted) l.asked.items
