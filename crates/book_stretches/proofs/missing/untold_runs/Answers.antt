use Rattle.std.proofs.Common.{subst, sym}
use Rattle.std.proofs.lemmas.Result.{IfOk-weaker}
use Rattle.book_stretches.specs.Missing.{AreUntold}
use Rattle.book_stretches.proofs.Gaps.{no-clash, untold}
use Rattle.book_stretches.proofs.missing.untold_runs.Goals as goal

pub returns-clause-runs : goal.returns-clause-runs
returns-clause-runs c =
    let book = c.args.book.now in
    IfOk-weaker c.missing_runs.result _ _ (λ runs is. subst (AreUntold book) (sym is) (untold book c.args.told.now c.requires c.classes-classes.ensures.stretched))
    c.missing_runs.ensures

pub returns-clause-one : goal.returns-clause-one
returns-clause-one c = no-clash c.args.book.now c.args.told.now c.requires c.classes-classes.ensures.stretched
