use Rattle.std.proofs.Common.{◌≡◌, drop}
use Rattle.class_texts.specs.Marks.{from_turn}
use Rattle.class_texts.proofs.marks.from_turn.Given as goal

-- no turn of the step is among those passed
abbrev pub invariant-loop-place : goal.invariant-loop-place
invariant-loop-place l = from_turn l.step (drop l.place l.events) ≡ from_turn l.step l.events
