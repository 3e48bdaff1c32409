use Rattle.std.proofs.Common.{◌≡◌, sym, ◌∙◌, true, false}
use Rattle.std.specs.List.{list_all}
use Rattle.bound_statements.specs.Plan.{Request, plan}
use Rattle.machine_model.specs.Claims.{plans}
use Rattle.rank_facts.specs.Quiet.{fit_together}
use Rattle.step_reducer.proofs.Asked.{all-true, all-false, all-end}
use Rattle.step_reducer.proofs.pairs.all_fit_together.Goals as goal

pub loop-statement-preserved : goal.loop-statement-preserved
loop-statement-preserved c =
    let yes : list_all (λ (q : Request). list_all (fit_together q) (plans c.args.others.now)) (plan c.statement-item.result) ≡ true =
    sym c.statement_fits_beside.ensures ∙ c.if-not-statement_fits_beside.false in
    all-true (λ (q : Request). list_all (fit_together q) (plans c.args.others.now)) c.args.statements.now c.loop-statement.statement-index
    c.statement-item.result c.loop-statement-test.true c.statement-item.is yes c.loop-statement.invariant

pub returns-then-not-statement_fits_beside : goal.returns-then-not-statement_fits_beside
returns-then-not-statement_fits_beside c =
    let no : list_all (λ (q : Request). list_all (fit_together q) (plans c.args.others.now)) (plan c.statement-item.result) ≡ false =
    sym c.statement_fits_beside.ensures ∙ c.if-not-statement_fits_beside.true in
    all-false (λ (q : Request). list_all (fit_together q) (plans c.args.others.now)) c.args.statements.now c.loop-statement.statement-index
    c.statement-item.result c.loop-statement-test.true c.statement-item.is no c.loop-statement.invariant

pub returns : goal.returns
returns c = all-end (λ (q : Request). list_all (fit_together q) (plans c.args.others.now)) c.args.statements.now c.loop-statement.statement-index
    c.loop-statement-test.false c.loop-statement.invariant
