use Rattle.std.proofs.Common.{◌≡◌, replicate}
use Rattle.session_steps.specs.Stage.{no_member}
use Rattle.session_machine.proofs.stage.SharedStage.new.Given as goal

-- as many as were counted
abbrev pub invariant-loop-session : goal.invariant-loop-session
invariant-loop-session l = l.members.items ≡ replicate l._session no_member
