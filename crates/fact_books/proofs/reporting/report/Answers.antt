use Rattle.std.proofs.Common.{ap, subst, arith, Ok}
use Rattle.std.specs.Result.{IfOk, IfErr}
use Rattle.bound_specs.specs.Spec.{ranks}
use Rattle.rank_facts.specs.Swap.{leads_in}
use Rattle.rank_facts.specs.Values.{AllTrue}
use Rattle.fact_books.specs.declared.about.About.{About}
use Rattle.fact_books.specs.Entries.{recorded}
use Rattle.fact_books.specs.Books.{Contents}
use Rattle.fact_books.specs.Values.{AreValues, IsNotReported, IsCovering}
use Rattle.fact_books.proofs.Recordable.{few-told}
use Rattle.fact_books.proofs.ReportLemmas.{values-answered, stop-answered, covering-answered}
use Rattle.fact_books.proofs.reporting.report.Goals as goal

pub report_of-requires-clause-few : goal.report_of-requires-clause-few
report_of-requires-clause-few c = λ values are.
    few-told _ _ _ c.book.invariant.about_is.is_file c.book.invariant.recordable values
    (values-answered _ _ _ c.book.invariant _ _ _ _ c.outcomes.ensures c.as_slice.ensures.value (ap (λ (a : About). a.shape) c.deref-2.ensures)
    (ap (λ (a : About). a.ranks) c.deref-3.ensures) (Ok values) are)

pub returns-clause-values : goal.returns-clause-values
returns-clause-values c =
    subst (λ (b : Contents). IfOk c.report_of.result (AreValues b.facts (leads_in b.file.run) (ranks b.file.run))) c.book.view_is
    (values-answered _ _ _ c.book.invariant _ _ _ _ c.outcomes.ensures c.as_slice.ensures.value (ap (λ (a : About). a.shape) c.deref-2.ensures)
    (ap (λ (a : About). a.ranks) c.deref-3.ensures)
    c.report_of.result c.report_of.ensures.values)

pub returns-clause-refused : goal.returns-clause-refused
returns-clause-refused c =
    let count = ap (λ (a : About). a.ranks) c.deref.ensures in
    subst (λ (b : Contents). IfErr c.report_of.result (IsNotReported b)) c.book.view_is
    (stop-answered _ _ _ c.book.invariant _ _ _ _ c.outcomes.ensures c.as_slice.ensures.value (ap (λ (a : About). a.shape) c.deref-2.ensures)
    (ap (λ (a : About). a.ranks) c.deref-3.ensures)
    c.report_of.result (omega (arith, count, c.if-deref-gt-MAX_REPORTED.false)) c.report_of.ensures.stop)

pub returns-clause-covering : goal.returns-clause-covering
returns-clause-covering c =
    let count = ap (λ (a : About). a.ranks) c.deref.ensures in
    let values = values-answered _ _ _ c.book.invariant _ _ _ _ c.outcomes.ensures c.as_slice.ensures.value (ap (λ (a : About). a.shape) c.deref-2.ensures)
    (ap (λ (a : About). a.ranks) c.deref-3.ensures)
    c.report_of.result c.report_of.ensures.values in
    let stop = stop-answered _ _ _ c.book.invariant _ _ _ _ c.outcomes.ensures c.as_slice.ensures.value (ap (λ (a : About). a.shape) c.deref-2.ensures)
    (ap (λ (a : About). a.ranks) c.deref-3.ensures)
    c.report_of.result (omega (arith, count, c.if-deref-gt-MAX_REPORTED.false)) c.report_of.ensures.stop in
    subst (λ (b : Contents). AllTrue b.file.run (recorded b.facts) → IsCovering b c.report_of.result) c.book.view_is
    (covering-answered _ _ _ c.book.invariant c.report_of.result values stop)
