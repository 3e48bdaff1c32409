use Rattle.std.proofs.Common.{◌≡◌, take}
use Rattle.marked_worlds.proofs.told.transcripts_of.Given as goal

-- those so far are copied
abbrev pub invariant-loop-session : goal.invariant-loop-session
invariant-loop-session l = l.transcripts.items ≡ take l.session l.logs.now
