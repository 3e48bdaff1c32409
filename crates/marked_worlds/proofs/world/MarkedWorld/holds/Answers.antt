use Rattle.std.proofs.Common.{◌∙◌, sym, ap}
use Rattle.numbered_specs.specs.Numbers.{resource_of}
use Rattle.machine_model.specs.World.{look_of}
use Rattle.session_steps.proofs.Standing.{look-now}
use Rattle.marked_worlds.specs.Worlds.{MarkedRunning}
use Rattle.marked_worlds.proofs.world.MarkedWorld.holds.Goals as goal

pub returns : goal.returns
returns c =
    let steps = c.self.inside.spec.now.run.steps in
    let stage = c.self.inside.stage in
    let i = c.args.session in
    let whole = ap (λ (v : MarkedRunning). v.spent) c.self.view_is ∙ c.requires.whole in
    c.holds.ensures
    ∙ ap (λ look. look i (resource_of stage.numbers.resources c.args.number)) (sym (look-now steps stage.now (c.self.invariant.now whole).stage))
    ∙ ap (λ (v : MarkedRunning). look_of v.world i (resource_of v.numbers.resources c.args.number)) c.self.view_is
