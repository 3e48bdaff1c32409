use Rattle.std.proofs.Common.{Some, None, sym, subst, refl}
use Rattle.world_graph.specs.Walking.{IsWalk, IsFinished}
use Rattle.world_graph.proofs.Walks.{walk-open, walk-back, walk-over}
use Rattle.world_graph.proofs.Turns.{less-back}
use Rattle.world_graph.proofs.exploring.backward.Goals as goal

pub returns-in-None-clause-over : goal.returns-in-None-clause-over
returns-in-None-clause-over g c =
    let finished : IsFinished c.args.walk.now c.finish.new.self None = subst (λ o. IsFinished c.args.walk.now c.finish.new.self o) c.in-None.is c.in_ok-finish.ensures in
    λ _. walk-over g.E.Explored.rules (g.E.Explored.seen c.args.explored.now) (g.E.Explored.world c.args.explored.now) (g.E.Explored.marked c.args.explored.now) c.args.walk.now c.finish.new.self
    c.requires.walk c.requires.tried finished

pub returns-in-None-clause-empty : goal.returns-in-None-clause-empty
returns-in-None-clause-empty g c =
    let finished : IsFinished c.args.walk.now c.finish.new.self None = subst (λ o. IsFinished c.args.walk.now c.finish.new.self o) c.in-None.is c.in_ok-finish.ensures in
    λ _. finished.empty refl

pub returns-in_ok-emit-in-Some-clause-walk : goal.returns-in_ok-emit-in-Some-clause-walk
returns-in_ok-emit-in-Some-clause-walk g c =
    let r = g.E.Explored.rules in
    let seen = g.E.Explored.seen c.args.explored.now in
    let finished : IsFinished c.args.walk.now c.finish.new.self (Some c.in-Some.frame) = subst (λ o. IsFinished c.args.walk.now c.finish.new.self o) c.in-Some.is c.in_ok-finish.ensures in
    λ _. subst (λ s. IsWalk r s (g.E.Explored.world c.go_back.new.self) (g.E.Explored.marked c.go_back.new.self) c.emit.new.self) (sym c.go_back.ensures.seen)
    (walk-back r seen (g.E.Explored.world c.args.explored.now) (g.E.Explored.world c.go_back.new.self) (g.E.Explored.marked c.args.explored.now) (g.E.Explored.marked c.go_back.new.self)
    c.args.walk.now c.finish.new.self c.emit.new.self c.in-Some.frame c.offset-offset.result c.requires.walk c.requires.tried finished
    c.go_back.ensures.marked c.offset-offset.ensures c.in_ok-emit-in-Some.ensures)

pub returns-in_ok-emit-in-Some-clause-less : goal.returns-in_ok-emit-in-Some-clause-less
returns-in_ok-emit-in-Some-clause-less g c =
    let finished : IsFinished c.args.walk.now c.finish.new.self (Some c.in-Some.frame) = subst (λ o. IsFinished c.args.walk.now c.finish.new.self o) c.in-Some.is c.in_ok-finish.ensures in
    let opened = walk-open g.E.Explored.rules (g.E.Explored.seen c.args.explored.now) (g.E.Explored.world c.args.explored.now) (g.E.Explored.marked c.args.explored.now) c.args.walk.now c.requires.walk in
    λ _ most. less-back most c.args.walk.now c.finish.new.self c.emit.new.self c.in-Some.frame c.args.walk.now.at.node c.offset-offset.result opened c.requires.tried finished c.in_ok-emit-in-Some.ensures
