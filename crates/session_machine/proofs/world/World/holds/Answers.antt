use Rattle.std.proofs.Common.{sym, ap, ◌∙◌}
use Rattle.lock_modes.specs.Resource.{resource_at}
use Rattle.session_machine.specs.Running.{held_in}
use Rattle.session_steps.specs.Stage.{world_in}
use Rattle.session_steps.proofs.Standing.{look-now}
use Rattle.session_machine.specs.SharedStage.{staged_of}
use Rattle.session_machine.proofs.world.World.holds.Goals as goal

pub returns : goal.returns
returns c =
    let steps = c.self.inside.spec.now.run.steps in
    let stage = staged_of c.self.inside.stage in
    let r = resource_at c.args.place in
    c.holds.ensures ∙ sym (ap (λ look. look c.args.session r) (look-now steps stage (c.self.invariant c.if-self.false).stage))
    ∙ sym (ap (λ b. held_in (record { file = c.self.inside.spec.now; world = world_in steps stage; spent = b }) c.args.session r) c.if-self.false)
    ∙ ap (λ v. held_in v c.args.session r) c.self.view_is
