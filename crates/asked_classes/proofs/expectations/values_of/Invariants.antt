use Rattle.std.proofs.Common.{take}
use Rattle.asked_classes.specs.Looks.{AreValues}
use Rattle.asked_classes.proofs.expectations.values_of.Given as goal

-- the words before this one are these values
abbrev pub invariant-loop-place : goal.invariant-loop-place
invariant-loop-place l = AreValues (take l.place l.words) l.values.items
