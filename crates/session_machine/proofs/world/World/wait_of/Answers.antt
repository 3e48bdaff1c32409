use Rattle.std.proofs.Common.{◌==◌, sym, ap, ◌∙◌}
use Rattle.std.specs.List.{find}
use Rattle.std.specs.Option.{option_map}
use Rattle.lock_queues.specs.declared.wait.Wait.{Wait}
use Rattle.lock_queues.specs.Locks.{wanted_by}
use Rattle.session_machine.specs.Running.{wait_in}
use Rattle.session_steps.specs.Stage.{world_in}
use Rattle.session_steps.proofs.Standing.{look-now}
use Rattle.session_machine.specs.SharedStage.{staged_of}
use Rattle.session_machine.proofs.world.World.wait_of.Goals as goal

pub returns : goal.returns
returns c =
    let steps = c.self.inside.spec.now.run.steps in
    let stage = staged_of c.self.inside.stage in
    c.wait_of.ensures
    ∙ sym (ap (λ look. option_map (λ (v : Wait). (v.resource, wanted_by look v)) (find (λ (v : Wait). v.session == c.args.session) stage.locks.waits))
    (look-now steps stage (c.self.invariant c.if-self.false).stage))
    ∙ sym (ap (λ b. wait_in (record { file = c.self.inside.spec.now; world = world_in steps stage; spent = b }) c.args.session) c.if-self.false)
    ∙ ap (λ v. wait_in v c.args.session) c.self.view_is
