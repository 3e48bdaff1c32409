use Rattle.std.proofs.Common.{◌∙◌, ◌∷◌, sym, ap, subst, length, false}
use Rattle.known_worlds.specs.Late.{LateRunning}
use Rattle.known_worlds.specs.Moves.{IsNewestMark}
use Rattle.known_worlds.specs.Following.{is_level, led}
use Rattle.known_worlds.proofs.FollowLemmas.{led-back}
use Rattle.known_worlds.proofs.late_world.LateWorld.go_back.Goals as goal

pub returns-clause-marked : goal.returns-clause-marked
returns-clause-marked c =
    let x = c.self.inside.follower.machine in
    let y = c.leave.new.self.machine in
    let path = c.self.inside.path.items in
    let place = c.in-Some.place in
    let mark : IsNewestMark path (length path) place = subst (λ p. IsNewestMark p (length p) place) c.as_slice.ensures.value
    (subst (λ n. IsNewestMark c.as_slice.result.now n place) (c.len.ensures ∙ sym c.as_slice.ensures.len) c.in-Some.ensures.found) in
    ap (λ (v : LateRunning). v.marked) (sym c.self.view_is) ∙ led-back x y (is_level c.self.inside.follower path) false path place c.leave.ensures.aside mark
    ∙ ap (λ p. (led y false p).world ∷ (led y false p).marked) (sym c.truncate.ensures.items)
