use Rattle.std.proofs.Common.{take}
use Rattle.std.specs.List.{AllZip}
use Rattle.accepted_outputs.specs.Judging.{IsFirstDifference}
use Rattle.accepted_outputs.proofs.judging.judge.Given as goal

-- each of the reports before this one differs
abbrev pub invariant-loop-index : goal.invariant-loop-index
invariant-loop-index l = AllZip (IsFirstDifference l.report) (take l.index l.accepted) l.places.items
