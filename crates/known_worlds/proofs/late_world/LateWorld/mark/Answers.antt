use Rattle.std.proofs.Common.{◌∙◌, ◌∷◌, ap, false}
use Rattle.known_worlds.specs.Late.{LateRunning}
use Rattle.known_worlds.specs.declared.moves.Move.TheVariants.{Mark}
use Rattle.known_worlds.specs.Following.{is_level, led}
use Rattle.known_worlds.proofs.FollowLemmas.{led-moved, not-level}
use Rattle.known_worlds.proofs.late_world.LateWorld.mark.Goals as goal

pub returns-clause-marked : goal.returns-clause-marked
returns-clause-marked c =
    let w = c.self.inside in
    let x = w.follower.machine in
    let path = w.path.items in
    (λ i. led x (not-level w.follower path c.push.new.self.items Mark c.self.invariant.follows.few c.in_ok-push.ensures.items i) (c.in_ok-push.ensures.items i))
    ∙ led-moved x (is_level w.follower path) false path Mark
    ∙ ap (λ (v : LateRunning). record v { marked = v.world ∷ v.marked; level = false }) c.self.view_is
