use Rattle.std.proofs.Common.{◌≡◌}
use Rattle.session_machine.specs.SharedStage.{staged_of}
use Rattle.session_machine.specs.Telling.{stale_told}
use Rattle.session_machine.proofs.stage.SharedStage.stale_since.Given as goal

abbrev pub invariant-loop-other : goal.invariant-loop-other
invariant-loop-other l = l.stale ≡ stale_told l.spec.run.steps l.other l.session (staged_of l.before) (staged_of l.self)
