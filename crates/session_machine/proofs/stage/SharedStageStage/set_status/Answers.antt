use Rattle.std.proofs.Common.{ap}
use Rattle.session_machine.specs.SharedStage.{staged_of}
use Rattle.session_steps.specs.Stage.{Member}
use Rattle.session_steps.proofs.Acted.{others-still}
use Rattle.session_machine.proofs.stage.SharedStageStage.set_status.Goals as goal

pub returns-clause-others : goal.returns-clause-others
returns-clause-others c =
    others-still c.args.session (staged_of c.args.self.now) c.index_mut.result.now c.set_status.new.self c.requires c.index_mut.ensures.value
    (ap (λ (m : Member). m.rest) c.set_status.ensures)
