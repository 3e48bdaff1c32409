use Rattle.std.proofs.Common.{◌≡◌, take}
use Rattle.session_machine.proofs.stage.fork_members.Given as goal

-- the sessions so far
abbrev pub invariant-loop-member : goal.invariant-loop-member
invariant-loop-member l = l.forked.items ≡ take l.member-index l.members
