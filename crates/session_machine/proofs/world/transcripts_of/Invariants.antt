use Rattle.std.proofs.Common.{◌≡◌, take}
use Rattle.session_steps.specs.Stage.{transcripts_of}
use Rattle.session_machine.proofs.world.transcripts_of.Given as goal

-- the transcripts of the sessions so far
abbrev pub invariant-loop-member : goal.invariant-loop-member
invariant-loop-member l = l.transcripts.items ≡ transcripts_of (take l.member-index l.members)
