use mathlib.Core.List.{IsPrefix}
use Rattle.std.proofs.Common.{sym, subst, ℕ, ◌<◌}
use Rattle.std.proofs.lemmas.Result.{IfOk-weaker}
use Rattle.step_reducer.specs.declared.walk.Walk.TheVariants.{Words, Lines}
use Rattle.step_reducer.specs.Walks.{HasGiven}
use Rattle.step_reducer.specs.Lines.{HasRun}
use Rattle.step_reducer.specs.Saying.{giving_of}
use Rattle.step_reducer.specs.Walking.{walk_at, walk_told, IsGoing, IsWalkOf, HasMoved, HasWalked}
use Rattle.step_reducer.proofs.Walkings.{words-moved, words-walked, lines-moved, lines-walked}
use Rattle.step_reducer.proofs.walk.Walk.next_run.Goals as goal

pub returns-in-Words-clause-moved : goal.returns-in-Words-clause-moved
returns-in-Words-clause-moved c =
    let file = c.args.spec.now in
    let w = c.in-Words.walk in
    let v = c.next_run.new.self in
    let going = subst (IsGoing file c.args.reduce) c.in-Words.is c.requires.going in
    IfOk-weaker c.next_run.result (λ given. HasGiven w.stack.top.world.file c.args.end w (giving_of v.stack.told given) v)
    (λ given. HasMoved file c.args.reduce c.args.end c.args.self.now (giving_of v.stack.told given) (Words v))
    (λ given gives. subst (λ x. HasMoved file c.args.reduce c.args.end x (giving_of v.stack.told given) (Words v)) (sym c.in-Words.is)
    (words-moved file c.args.reduce c.args.end w (giving_of v.stack.told given) v going.0 going.1 gives)) c.next_run.ensures.given

pub returns-in-Words-clause-walked : goal.returns-in-Words-clause-walked
returns-in-Words-clause-walked c =
    let file = c.args.spec.now in
    let w = c.in-Words.walk in
    let v = c.next_run.new.self in
    IfOk-weaker c.next_run.result (λ given. HasGiven w.stack.top.world.file c.args.end w (giving_of v.stack.told given) v)
    (λ given. (first : ℕ) → IsWalkOf file c.args.reduce first c.args.end c.args.self.now → HasWalked file c.args.reduce first c.args.end c.args.self.now (giving_of v.stack.told given) (Words v))
    (λ given gives first is. subst (λ x. HasWalked file c.args.reduce first c.args.end x (giving_of v.stack.told given) (Words v)) (sym c.in-Words.is)
    (words-walked file c.args.reduce first c.args.end w (giving_of v.stack.told given) v (subst (IsWalkOf file c.args.reduce first c.args.end) c.in-Words.is is) gives)) c.next_run.ensures.given

pub returns-in-Lines-clause-moved : goal.returns-in-Lines-clause-moved
returns-in-Lines-clause-moved c =
    let file = c.args.spec.now in
    let w = c.in-Lines.walk in
    let v = c.next_run-in-Lines.new.self in
    let going = subst (IsGoing file c.args.reduce) c.in-Lines.is c.requires.going in
    let some = subst (λ x. walk_at x < c.args.end) c.in-Lines.is c.requires.some in
    IfOk-weaker c.next_run-in-Lines.result (λ given. HasRun w (giving_of v.path.world.told given) v)
    (λ given. HasMoved file c.args.reduce c.args.end c.args.self.now (giving_of v.path.world.told given) (Lines v))
    (λ given ran. subst (λ x. HasMoved file c.args.reduce c.args.end x (giving_of v.path.world.told given) (Lines v)) (sym c.in-Lines.is)
    (lines-moved file c.args.reduce c.args.end w (giving_of v.path.world.told given) v going some ran)) c.next_run-in-Lines.ensures.given

pub returns-in-Lines-clause-walked : goal.returns-in-Lines-clause-walked
returns-in-Lines-clause-walked c =
    let file = c.args.spec.now in
    let w = c.in-Lines.walk in
    let v = c.next_run-in-Lines.new.self in
    let some = subst (λ x. walk_at x < c.args.end) c.in-Lines.is c.requires.some in
    IfOk-weaker c.next_run-in-Lines.result (λ given. HasRun w (giving_of v.path.world.told given) v)
    (λ given. (first : ℕ) → IsWalkOf file c.args.reduce first c.args.end c.args.self.now → HasWalked file c.args.reduce first c.args.end c.args.self.now (giving_of v.path.world.told given) (Lines v))
    (λ given ran first is. subst (λ x. HasWalked file c.args.reduce first c.args.end x (giving_of v.path.world.told given) (Lines v)) (sym c.in-Lines.is)
    (lines-walked file c.args.reduce first c.args.end w (giving_of v.path.world.told given) v (subst (IsWalkOf file c.args.reduce first c.args.end) c.in-Lines.is is) some ran)) c.next_run-in-Lines.ensures.given

pub returns-in-Words-clause-front : goal.returns-in-Words-clause-front
returns-in-Words-clause-front c = subst (λ x. IsPrefix (walk_told x) c.next_run.new.self.stack.told) (sym c.in-Words.is) c.next_run.ensures.front

pub returns-in-Lines-clause-front : goal.returns-in-Lines-clause-front
returns-in-Lines-clause-front c =
    subst (λ x. IsPrefix (walk_told x) c.next_run-in-Lines.new.self.path.world.told) (sym c.in-Lines.is) c.next_run-in-Lines.ensures.front
