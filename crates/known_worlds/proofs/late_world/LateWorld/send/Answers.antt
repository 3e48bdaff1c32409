use Rattle.std.proofs.Common.{◌∙◌, ap}
use Rattle.machine_model.specs.World as world
use Rattle.known_worlds.specs.Late.{LateRunning}
use Rattle.known_worlds.specs.declared.moves.Move.TheVariants.{Send}
use Rattle.known_worlds.specs.Following.{is_level, led}
use Rattle.known_worlds.proofs.FollowLemmas.{led-moved}
use Rattle.known_worlds.proofs.late_world.LateWorld.send.Goals as goal

pub returns-clause-sent : goal.returns-clause-sent
returns-clause-sent c =
    let w = c.self.inside in
    let x = w.follower.machine in
    let path = w.path.items in
    let new = is_level w.follower c.push.new.self.items in
    ap (led x new) c.in_ok-push.ensures.items ∙ led-moved x (is_level w.follower path) new path (Send c.args.step)
    ∙ ap (λ (v : LateRunning). record v { world = world.send v.file.run.steps v.world c.args.step; level = new }) c.self.view_is
