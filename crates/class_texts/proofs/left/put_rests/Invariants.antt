use Rattle.std.proofs.Common.{◌≡◌, ◌++◌, drop}
use Rattle.class_texts.specs.Beneath.{rests_from}
use Rattle.class_texts.proofs.left.put_rests.Given as goal

-- those put and those left
abbrev pub invariant-loop-session : goal.invariant-loop-session
invariant-loop-session l = l.lines ++ rests_from l.sessions l.session (drop l.session l.rests) ≡ l.fn.lines ++ rests_from l.sessions 0 l.rests
