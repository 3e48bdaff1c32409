use Rattle.std.proofs.Common.{refl, ap, get_or}
use Rattle.session_steps.specs.Stage.{no_member}
use Rattle.marked_worlds.specs.Members.{with_status}
use Rattle.marked_worlds.specs.Stages.{MarkedStages}
use Rattle.marked_worlds.proofs.StageLemmas.{others-acts}
use Rattle.marked_worlds.proofs.stage.MarkedStageStage.set_status.Goals as goal

pub returns-clause-others : goal.returns-clause-others
returns-clause-others c =
    let i = c.args.session in
    let ms = c.self.inside.members.list in
    others-acts c.set_status.result i c.args.self.now.now c.self.inside.rows.now c.self.inside.locks.now ms c.set_status.new.self.list (with_status (get_or ms i no_member) c.args.status)
    (ap (λ (v : MarkedStages). v.now.members) c.self.view_is) c.requires refl c.set_status.ensures.stands
