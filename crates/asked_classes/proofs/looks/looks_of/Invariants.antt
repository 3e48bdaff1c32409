use Rattle.std.proofs.Common.{take}
use Rattle.asked_classes.specs.Looks.{AreLooks}
use Rattle.asked_classes.proofs.looks.looks_of.Given as goal

-- the texts before this one are these looks
abbrev pub invariant-loop-place : goal.invariant-loop-place
invariant-loop-place l = AreLooks l.tables (take l.place l.texts) l.looks.items
