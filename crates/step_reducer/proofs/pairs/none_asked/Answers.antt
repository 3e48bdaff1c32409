use Rattle.std.proofs.Common.{◌≡◌, sym, ◌∙◌, not, true, false}
use Rattle.std.specs.List.{list_all}
use Rattle.lock_modes.specs.Resource.{resource_at, same_resource}
use Rattle.bound_statements.specs.Plan.{Request, plan}
use Rattle.step_reducer.proofs.Asked.{all-true, all-false, all-end}
use Rattle.step_reducer.proofs.pairs.none_asked.Goals as goal

pub loop-statement-preserved : goal.loop-statement-preserved
loop-statement-preserved c =
    let yes : list_all (λ (q : Request). not (same_resource (resource_at c.args.there) q.resource)) (plan c.statement-item.result) ≡ true =
    sym c.none_asked_by.ensures ∙ c.if-not-none_asked_by.false in
    all-true (λ (q : Request). not (same_resource (resource_at c.args.there) q.resource)) c.args.statements.now c.loop-statement.statement-index
    c.statement-item.result c.loop-statement-test.true c.statement-item.is yes c.loop-statement.invariant

pub returns-then-not-none_asked_by : goal.returns-then-not-none_asked_by
returns-then-not-none_asked_by c =
    let no : list_all (λ (q : Request). not (same_resource (resource_at c.args.there) q.resource)) (plan c.statement-item.result) ≡ false =
    sym c.none_asked_by.ensures ∙ c.if-not-none_asked_by.true in
    all-false (λ (q : Request). not (same_resource (resource_at c.args.there) q.resource)) c.args.statements.now c.loop-statement.statement-index
    c.statement-item.result c.loop-statement-test.true c.statement-item.is no c.loop-statement.invariant

pub returns : goal.returns
returns c = all-end (λ (q : Request). not (same_resource (resource_at c.args.there) q.resource)) c.args.statements.now c.loop-statement.statement-index
    c.loop-statement-test.false c.loop-statement.invariant
