use Rattle.std.proofs.Common.{◌≡◌, sym, ◌∙◌, true, false}
use Rattle.std.specs.List.{list_all}
use Rattle.lock_modes.specs.Resource.{resource_at}
use Rattle.bound_statements.specs.Plan.{request, plan}
use Rattle.rank_facts.specs.Quiet.{fit_together}
use Rattle.step_reducer.proofs.Asked.{all-true, all-false, all-end}
use Rattle.step_reducer.proofs.pairs.request_fits.Goals as goal

pub loop-statement-preserved : goal.loop-statement-preserved
loop-statement-preserved c =
    let yes : list_all (fit_together (request (resource_at c.args.place) c.args.mode)) (plan c.statement-item.result) ≡ true = sym c.request_fits_one.ensures
    ∙ c.if-not-request_fits_one.false in
    all-true (fit_together (request (resource_at c.args.place) c.args.mode)) c.args.others.now c.loop-statement.statement-index c.statement-item.result
    c.loop-statement-test.true c.statement-item.is yes c.loop-statement.invariant

pub returns-then-not-request_fits_one : goal.returns-then-not-request_fits_one
returns-then-not-request_fits_one c =
    let no : list_all (fit_together (request (resource_at c.args.place) c.args.mode)) (plan c.statement-item.result) ≡ false = sym c.request_fits_one.ensures
    ∙ c.if-not-request_fits_one.true in
    all-false (fit_together (request (resource_at c.args.place) c.args.mode)) c.args.others.now c.loop-statement.statement-index c.statement-item.result
    c.loop-statement-test.true c.statement-item.is no c.loop-statement.invariant

pub returns : goal.returns
returns c = all-end (fit_together (request (resource_at c.args.place) c.args.mode)) c.args.others.now c.loop-statement.statement-index
    c.loop-statement-test.false c.loop-statement.invariant
