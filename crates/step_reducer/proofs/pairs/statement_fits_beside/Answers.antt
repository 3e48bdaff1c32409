use Rattle.std.proofs.Common.{◌≡◌, sym, ◌∙◌, arith, true, false}
use Rattle.std.specs.List.{list_all}
use Rattle.lock_modes.specs.Resource.{resource_at}
use Rattle.bound_statements.specs.Plan.{Request, request, plan}
use Rattle.machine_model.specs.Claims.{plans}
use Rattle.rank_facts.specs.Quiet.{fit_together}
use Rattle.step_reducer.proofs.Asked.{on-true, on-false, on-none, on-end}
use Rattle.step_reducer.proofs.pairs.statement_fits_beside.Goals as goal

pub returns-in_default : goal.returns-in_default
returns-in_default c = on-none (λ (q : Request). list_all (fit_together q) (plans c.args.others.now)) (plan c.args.statement.now) c.loop-number.number
    (sym c.in_default.ensures) c.loop-number.invariant

pub returns-then-not-request_fits : goal.returns-then-not-request_fits
returns-then-not-request_fits c =
    let no : (λ (q : Request). list_all (fit_together q) (plans c.args.others.now)) (request (resource_at c.in-Some.place) c.in-Some.mode) ≡ false =
    sym c.request_fits.ensures ∙ c.if-not-request_fits.true in
    on-false (λ (q : Request). list_all (fit_together q) (plans c.args.others.now)) (plan c.args.statement.now) c.loop-number.number
    (request (resource_at c.in-Some.place) c.in-Some.mode) (sym c.in-Some.ensures) no c.loop-number.invariant

pub returns : goal.returns
returns c = on-end (λ (q : Request). list_all (fit_together q) (plans c.args.others.now)) (plan c.args.statement.now) c.loop-number.number
    (omega (arith, c.requires.short, c.loop-number-test.false)) c.loop-number.invariant

pub loop-number-preserved : goal.loop-number-preserved
loop-number-preserved c =
    let yes : (λ (q : Request). list_all (fit_together q) (plans c.args.others.now)) (request (resource_at c.in-Some.place) c.in-Some.mode) ≡ true =
    sym c.request_fits.ensures ∙ c.if-not-request_fits.false in
    on-true (λ (q : Request). list_all (fit_together q) (plans c.args.others.now)) (plan c.args.statement.now) c.loop-number.number
    (request (resource_at c.in-Some.place) c.in-Some.mode) (sym c.in-Some.ensures) yes c.loop-number.invariant
