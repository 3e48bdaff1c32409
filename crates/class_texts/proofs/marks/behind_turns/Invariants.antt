use Rattle.std.proofs.Common.{◌≡◌, drop}
use Rattle.class_texts.specs.Marks.{behind_turns}
use Rattle.class_texts.proofs.marks.behind_turns.Given as goal

-- what is left behind those passed
abbrev pub invariant-loop-other : goal.invariant-loop-other
invariant-loop-other l = behind_turns l.step (drop l.other-index l.before) l.left ≡ behind_turns l.step l.before l.events
