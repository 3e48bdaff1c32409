use Rattle.std.proofs.Common.{rules, arith, ◌≡◌, ◌∷◌, true, false, Some, sym, ap, subst, ◌∙◌, refl}
use Rattle.std.specs.Prelude.{slice_get}
use Rattle.std.proofs.lemmas.Option.{slice_get_within}
use Rattle.world_graph.specs.Worlds.{GoesOn, IsNoted}
use Rattle.world_graph.proofs.Books.{noted-goes-on, noted-at}
use Rattle.world_graph.proofs.Turns.{less-passed, less-next, less-entered}
use Rattle.world_graph.specs.Walking.{IsWalk, state_at}
use Rattle.world_graph.specs.declared.walk.Frame.{Frame}
use Rattle.world_graph.specs.declared.walk.State.TheVariants.{Fresh, Open, Done}
use Rattle.world_graph.proofs.Walks.{bottom-entered, walk-passed, walk-entered, walk-emitted, walk-circle}
use Rattle.world_graph.proofs.exploring.forward.Goals as goal

pub returns-then-not-enabled-clause-walk : goal.returns-then-not-enabled-clause-walk
returns-then-not-enabled-clause-walk g c =
    let r = g.E.Explored.rules in
    let w = g.E.Explored.world c.args.explored.now in
    let not : r.can w c.args.walk.now.at.letter ≡ false = search rules in
    walk-passed r (g.E.Explored.seen c.args.explored.now) w (g.E.Explored.marked c.args.explored.now) c.args.walk.now _ c.requires.walk c.requires.more not refl

pub returns-in_ok-enter-in-Fresh-clause-walk : goal.returns-in_ok-enter-in-Fresh-clause-walk
returns-in_ok-enter-in-Fresh-clause-walk g c =
    let r = g.E.Explored.rules in
    let walk = c.args.walk.now in
    let a = walk.at.letter in
    let w = g.E.Explored.world c.args.explored.now in
    let ws = g.E.Explored.marked c.args.explored.now in
    let old = g.E.Explored.seen c.args.explored.now in
    let new = g.E.Explored.seen c.number.new.self in
    let v = g.E.Explored.world c.number.new.self in
    let can : r.can w a ≡ true = search rules in
    let noted : IsNoted old new (g.E.Explored.world c.step.new.self) c.in_ok-to.to = subst (λ s. IsNoted s new (g.E.Explored.world c.step.new.self) c.in_ok-to.to) (c.in_ok-step.ensures.seen ∙ c.in_ok-mark.ensures.seen) c.in_ok-to.ensures.noted in
    let grows : GoesOn old new = noted-goes-on old new (g.E.Explored.world c.step.new.self) c.in_ok-to.to noted in
    let is : v ≡ r.next w a = c.in_ok-to.ensures.world ∙ c.in_ok-step.ensures.world ∙ ap (λ x. r.next x a) c.in_ok-mark.ensures.world in
    let there : slice_get new c.in_ok-to.to ≡ Some v = noted-at old new (g.E.Explored.world c.step.new.self) c.in_ok-to.to noted ∙ ap Some (sym c.in_ok-to.ensures.world) in
    let marks : g.E.Explored.marked c.number.new.self ≡ w ∷ ws = c.in_ok-to.ensures.marked ∙ c.in_ok-step.ensures.marked ∙ c.in_ok-mark.ensures.marked in
    let fresh : state_at walk.states.items c.in_ok-to.to ≡ Fresh = sym c.state.ensures ∙ c.in-Fresh.is in
    subst (λ ms. IsWalk r new v ms c.enter.new.self) (sym marks)
    (walk-entered r old new w v ws walk c.enter.new.self c.in_ok-to.to c.requires.walk c.requires.more can is grows there fresh c.in_ok-enter-in-Fresh.ensures)

pub returns-in_ok-emit-in-Done-clause-walk : goal.returns-in_ok-emit-in-Done-clause-walk
returns-in_ok-emit-in-Done-clause-walk g c =
    let r = g.E.Explored.rules in
    let walk = c.args.walk.now in
    let a = walk.at.letter in
    let w = g.E.Explored.world c.args.explored.now in
    let ws = g.E.Explored.marked c.args.explored.now in
    let old = g.E.Explored.seen c.args.explored.now in
    let new = g.E.Explored.seen c.number.new.self in
    let can : r.can w a ≡ true = search rules in
    let noted : IsNoted old new (g.E.Explored.world c.step.new.self) c.in_ok-to.to = subst (λ s. IsNoted s new (g.E.Explored.world c.step.new.self) c.in_ok-to.to) (c.in_ok-step.ensures.seen ∙ c.in_ok-mark.ensures.seen) c.in_ok-to.ensures.noted in
    let grows : GoesOn old new = noted-goes-on old new (g.E.Explored.world c.step.new.self) c.in_ok-to.to noted in
    let there : slice_get new c.in_ok-to.to ≡ Some (r.next w a) = noted-at old new (g.E.Explored.world c.step.new.self) c.in_ok-to.to noted ∙ ap Some (c.in_ok-step.ensures.world ∙ ap (λ x. r.next x a) c.in_ok-mark.ensures.world) in
    let marks : g.E.Explored.marked c.number.new.self ≡ w ∷ ws = c.in_ok-to.ensures.marked ∙ c.in_ok-step.ensures.marked ∙ c.in_ok-mark.ensures.marked in
    let done : state_at walk.states.items c.in_ok-to.to ≡ Done = sym c.state.ensures ∙ c.in-Done.is in
    let back = sym marks ∙ c.go_back.ensures.marked in
    let head : w ≡ g.E.Explored.world c.go_back.new.self = cc in
    let tail : ws ≡ g.E.Explored.marked c.go_back.new.self = cc in
    subst (λ s. IsWalk r s (g.E.Explored.world c.go_back.new.self) (g.E.Explored.marked c.go_back.new.self) c.emit.new.self) (sym c.go_back.ensures.seen)
    (subst (λ x. IsWalk r new x (g.E.Explored.marked c.go_back.new.self) c.emit.new.self) head
    (subst (λ ms. IsWalk r new w ms c.emit.new.self) tail
    (walk-emitted r old new w ws walk c.emit.new.self c.in_ok-to.to c.offset-offset.result c.requires.walk c.requires.more can grows there c.offset-offset.ensures done c.in_ok-emit-in-Done.ensures)))

pub returns-in-Open-clause-circle : goal.returns-in-Open-clause-circle
returns-in-Open-clause-circle g c =
    let r = g.E.Explored.rules in
    let walk = c.args.walk.now in
    let a = walk.at.letter in
    let w = g.E.Explored.world c.args.explored.now in
    let old = g.E.Explored.seen c.args.explored.now in
    let new = g.E.Explored.seen c.number.new.self in
    let can : r.can w a ≡ true = search rules in
    let noted : IsNoted old new (g.E.Explored.world c.step.new.self) c.in_ok-to.to = subst (λ s. IsNoted s new (g.E.Explored.world c.step.new.self) c.in_ok-to.to) (c.in_ok-step.ensures.seen ∙ c.in_ok-mark.ensures.seen) c.in_ok-to.ensures.noted in
    let grows : GoesOn old new = noted-goes-on old new (g.E.Explored.world c.step.new.self) c.in_ok-to.to noted in
    let there : slice_get new c.in_ok-to.to ≡ Some (r.next w a) = noted-at old new (g.E.Explored.world c.step.new.self) c.in_ok-to.to noted ∙ ap Some (c.in_ok-step.ensures.world ∙ ap (λ x. r.next x a) c.in_ok-mark.ensures.world) in
    let is : state_at walk.states.items c.in_ok-to.to ≡ Open = sym c.state.ensures ∙ c.in-Open.is in
    λ _. walk-circle r old new w (g.E.Explored.marked c.args.explored.now) walk c.in_ok-to.to c.requires.walk c.requires.more can grows there is

pub returns-then-not-enabled-clause-less : goal.returns-then-not-enabled-clause-less
returns-then-not-enabled-clause-less g c = less-passed c.args.most c.args.walk.now c.requires.more

pub returns-then-to-most-clause-many : goal.returns-then-to-most-clause-many
returns-then-to-most-clause-many g c =
    let new = g.E.Explored.seen c.number.new.self in
    let w = g.E.Explored.world c.step.new.self in
    let there : slice_get new c.in_ok-to.to ≡ Some w = noted-at (g.E.Explored.seen c.step.new.self) new w c.in_ok-to.to c.in_ok-to.ensures.noted in
    λ _. let within = slice_get_within new c.in_ok-to.to w there in omega arith

pub returns-in_ok-enter-in-Fresh-clause-bottom : goal.returns-in_ok-enter-in-Fresh-clause-bottom
returns-in_ok-enter-in-Fresh-clause-bottom g c =
    bottom-entered c.args.walk.now.parents.items c.enter.new.self.parents.items c.args.walk.now.at (g.E.Explored.world c.number.new.self) (g.E.Explored.world c.args.explored.now) (g.E.Explored.marked c.number.new.self)
    (g.E.Explored.marked c.args.explored.now) c.in_ok-enter-in-Fresh.ensures.parents (c.in_ok-to.ensures.marked ∙ c.in_ok-step.ensures.marked ∙ c.in_ok-mark.ensures.marked)

pub returns-in_ok-enter-in-Fresh-clause-less : goal.returns-in_ok-enter-in-Fresh-clause-less
returns-in_ok-enter-in-Fresh-clause-less g c =
    less-entered c.args.most c.args.walk.now c.enter.new.self c.in_ok-to.to (sym c.state.ensures ∙ c.in-Fresh.is) c.if-to-most.false c.in_ok-enter-in-Fresh.ensures

pub returns-in_ok-emit-in-Done-clause-less : goal.returns-in_ok-emit-in-Done-clause-less
returns-in_ok-emit-in-Done-clause-less g c =
    let e = c.in_ok-emit-in-Done.ensures in
    less-next c.args.most c.args.walk.now c.emit.new.self c.requires.more (ap (λ (f : Frame). f.letter) e.at) e.parents e.states
