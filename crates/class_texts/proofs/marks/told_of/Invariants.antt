use Rattle.std.proofs.Common.{◌≡◌, drop}
use Rattle.class_texts.specs.Marks.{told_of}
use Rattle.class_texts.proofs.marks.told_of.Given as goal

-- none of those passed has the step
abbrev pub invariant-loop-transcript : goal.invariant-loop-transcript
invariant-loop-transcript l = told_of l.step (drop l.transcript-index l.told) ≡ told_of l.step l.told
