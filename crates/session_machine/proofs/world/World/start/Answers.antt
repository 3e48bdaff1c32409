use Rattle.std.proofs.Common.{ap, ◌∙◌, subst, suc, add-one}
use Rattle.session_steps.specs.Stage.{IsBlank}
use Rattle.session_machine.specs.SharedStage.{staged_of}
use Rattle.session_machine.proofs.world.World.start.Goals as goal

pub run_setups-requires-clause-blank : goal.run_setups-requires-clause-blank
run_setups-requires-clause-blank c =
    subst (λ n. IsBlank n (staged_of c.in_ok-stage.stage)) (add-one c.sessions.result ∙ ap suc c.sessions.ensures.count) c.in_ok-stage.ensures
