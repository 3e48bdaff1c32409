use Rattle.std.proofs.Common.{◌≡◌, ◌++◌, drop}
use Rattle.class_texts.specs.Records.{sessions_from}
use Rattle.class_texts.proofs.records.put_sessions.Given as goal

-- those put and those left
abbrev pub invariant-loop-session : goal.invariant-loop-session
invariant-loop-session l = l.lines ++ sessions_from l.sessions l.steps l.session (drop l.session l.told) ≡ l.fn.lines ++ sessions_from l.sessions l.steps 0 l.told
