use Rattle.std.proofs.Common.{ap, ◌∙◌, subst, arith, Some, None}
use Rattle.bound_specs.specs.Spec.{ranks}
use Rattle.fact_books.specs.Runs.{first_gap}
use Rattle.fact_books.specs.declared.about.About.{About}
use Rattle.fact_books.specs.Books.{Contents, IsLeastMissing}
use Rattle.fact_books.proofs.BookLemmas.{missing-is, none-is-missing}
use Rattle.fact_books.proofs.gaps.missing.Goals as goal

pub returns-then-gap-deref : goal.returns-then-gap-deref
returns-then-gap-deref c =
    let gap = c.first_gap-gap.ensures ∙ ap (first_gap 0) c.as_slice.ensures.value in
    let count = ap (λ (a : About). a.ranks) c.deref.ensures in
    subst (λ (b : Contents). IsLeastMissing b.facts (ranks b.file.run) (Some c.first_gap-gap.result)) c.book.view_is
    (missing-is _ _ _ c.first_gap-gap.result c.book.invariant gap (omega (arith, count, c.if-gap-deref.true)))

pub returns-else-gap-deref : goal.returns-else-gap-deref
returns-else-gap-deref c =
    let gap = c.first_gap-gap.ensures ∙ ap (first_gap 0) c.as_slice.ensures.value in
    let count = ap (λ (a : About). a.ranks) c.deref.ensures in
    subst (λ (b : Contents). IsLeastMissing b.facts (ranks b.file.run) None) c.book.view_is
    (none-is-missing _ _ _ c.first_gap-gap.result c.book.invariant gap (omega (arith, count, c.if-gap-deref.false)))
