use Rattle.std.proofs.Common.{◌∙◌, ap}
use Rattle.machine_model.specs.World.{session_at}
use Rattle.marked_worlds.specs.Worlds.{MarkedRunning}
use Rattle.marked_worlds.proofs.WorldLemmas.{status-now}
use Rattle.marked_worlds.proofs.world.MarkedWorld.status.Goals as goal

pub returns : goal.returns
returns c =
    c.status.ensures ∙ status-now c.self.inside.spec.now.run.steps c.self.inside.stage.now c.args.session
    ∙ ap (λ (v : MarkedRunning). (session_at v.world c.args.session).status) c.self.view_is
