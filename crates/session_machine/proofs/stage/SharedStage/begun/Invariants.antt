use Rattle.std.proofs.Common.{◌≡◌}
use Rattle.session_machine.specs.SharedStage.{staged_of}
use Rattle.session_machine.specs.Showing.{begun_in}
use Rattle.session_machine.proofs.stage.SharedStage.begun.Given as goal

abbrev pub invariant-loop-session : goal.invariant-loop-session
invariant-loop-session l = l.all ≡ begun_in l.session (staged_of l.self)
