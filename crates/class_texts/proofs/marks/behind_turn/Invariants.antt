use Rattle.std.proofs.Common.{◌≡◌, drop}
use Rattle.class_texts.specs.Marks.{behind_turn}
use Rattle.class_texts.proofs.marks.behind_turn.Given as goal

-- no turn of the step is among those passed
abbrev pub invariant-loop-place : goal.invariant-loop-place
invariant-loop-place l = behind_turn l.step (drop l.place l.events) ≡ behind_turn l.step l.events
