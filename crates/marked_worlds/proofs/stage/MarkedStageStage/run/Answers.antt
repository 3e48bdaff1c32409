use Rattle.std.proofs.Common.{refl, ap, get_or}
use Rattle.row_tables.specs.Layers.{sight}
use Rattle.statement_evaluation.specs.Effect.{effect}
use Rattle.statement_execution.specs.Run.{events_of}
use Rattle.session_steps.specs.Stage.{no_member}
use Rattle.marked_worlds.specs.Members.{told_all}
use Rattle.marked_worlds.specs.Stages.{MarkedStages}
use Rattle.marked_worlds.proofs.StageLemmas.{others-acts}
use Rattle.marked_worlds.proofs.stage.MarkedStageStage.run.Goals as goal

pub returns-clause-others : goal.returns-clause-others
returns-clause-others c =
    let i = c.args.session in
    let ms = c.self.inside.members.list in
    others-acts c.run.result i c.args.self.now.now c.run.new.rows.now c.self.inside.locks.now ms c.run.new.self.list
    (told_all (get_or ms i no_member) (events_of (effect c.args.statement.now (sight i c.self.inside.rows.now))))
    (ap (λ (v : MarkedStages). v.now.members) c.self.view_is) c.requires.inside refl c.run.ensures.told
