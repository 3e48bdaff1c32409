use Rattle.std.proofs.Common.{◌≡◌, sym, ap, ◌∙◌, not, arith, true, false}
use Rattle.lock_modes.specs.Resource.{resource_at, same_resource}
use Rattle.bound_statements.specs.Plan.{Request, request, plan}
use Rattle.step_reducer.proofs.Asked.{on-true, on-false, on-none, on-end}
use Rattle.step_reducer.proofs.pairs.none_asked_by.Goals as goal

pub returns-in_default : goal.returns-in_default
returns-in_default c = on-none (λ (q : Request). not (same_resource (resource_at c.args.there) q.resource)) (plan c.args.statement.now) c.loop-number.number
    (sym c.in_default.ensures) c.loop-number.invariant

pub returns-then-is_same : goal.returns-then-is_same
returns-then-is_same c =
    let no : (λ (q : Request). not (same_resource (resource_at c.args.there) q.resource)) (request (resource_at c.in-Some.place) c.in-Some._mode) ≡ false =
    ap not (sym c.is_same.ensures ∙ c.if-is_same.true) in
    on-false (λ (q : Request). not (same_resource (resource_at c.args.there) q.resource)) (plan c.args.statement.now) c.loop-number.number
    (request (resource_at c.in-Some.place) c.in-Some._mode) (sym c.in-Some.ensures) no c.loop-number.invariant

pub returns : goal.returns
returns c = on-end (λ (q : Request). not (same_resource (resource_at c.args.there) q.resource)) (plan c.args.statement.now) c.loop-number.number
    (omega (arith, c.requires.short, c.loop-number-test.false)) c.loop-number.invariant

pub loop-number-preserved : goal.loop-number-preserved
loop-number-preserved c =
    let yes : (λ (q : Request). not (same_resource (resource_at c.args.there) q.resource)) (request (resource_at c.in-Some.place) c.in-Some._mode) ≡ true =
    ap not (sym c.is_same.ensures ∙ c.if-is_same.false) in
    on-true (λ (q : Request). not (same_resource (resource_at c.args.there) q.resource)) (plan c.args.statement.now) c.loop-number.number
    (request (resource_at c.in-Some.place) c.in-Some._mode) (sym c.in-Some.ensures) yes c.loop-number.invariant
