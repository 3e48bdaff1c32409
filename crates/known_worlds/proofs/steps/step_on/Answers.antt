use Rattle.std.proofs.Common.{◌∙◌, ap}
use Rattle.machine_model.specs.World.{send}
use Rattle.known_worlds.specs.Known.{KnownRunning}
use Rattle.known_worlds.proofs.AlongLemmas.{goes-on}
use Rattle.known_worlds.proofs.steps.step_on.Goals as goal

pub returns-in-Ok-clause-along : goal.returns-in-Ok-clause-along
returns-in-Ok-clause-along c ks along =
    let x = c.args.world.now in
    let k = c.args.step in
    let set = c.in_ok-mark.ensures.marked in
    let here = ap KnownRunning.world set in
    goes-on ks k x c.send.new.self along
    (c.in-Ok.ensures.of_spec ∙ c.in_ok-mark.ensures.file)
    c.in-Ok.ensures.whole
    (c.in-Ok.ensures.sent ∙ (λ i. send (c.in_ok-mark.ensures.file i).run.steps (here i) k))
    (c.in-Ok.ensures.marked ∙ ap KnownRunning.marked set)
