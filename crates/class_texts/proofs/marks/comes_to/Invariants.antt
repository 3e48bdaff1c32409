use Rattle.std.proofs.Common.{◌≡◌, drop}
use Rattle.class_texts.specs.Marks.{comes_to}
use Rattle.class_texts.proofs.marks.comes_to.Given as goal

-- those passed decide nothing
abbrev pub invariant-loop-event : goal.invariant-loop-event
invariant-loop-event l = comes_to l.sign (drop l.event-index l.events) ≡ comes_to l.sign l.events
