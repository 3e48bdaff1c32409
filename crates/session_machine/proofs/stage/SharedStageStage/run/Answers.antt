use Rattle.std.proofs.Common.{ap}
use Rattle.session_machine.specs.SharedStage.{staged_of}
use Rattle.session_steps.specs.Stage.{Member}
use Rattle.session_steps.proofs.Answered.{on_ok}
use Rattle.session_steps.proofs.Acted.{others-still}
use Rattle.session_machine.proofs.stage.SharedStageStage.run.Goals as goal

pub returns-clause-others : goal.returns-clause-others
returns-clause-others c = on_ok c.run.result _ _ c.run.ensures.told (λ told.
    others-still c.args.session (staged_of c.args.self.now) c.index_mut.result.now c.run.new.self c.requires.inside c.index_mut.ensures.value
    (ap (λ (m : Member). m.rest) told))
