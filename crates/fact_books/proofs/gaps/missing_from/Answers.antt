use Rattle.std.proofs.Common.{sym, ap, ◌∙◌, subst}
use Rattle.fact_books.specs.Runs.{first_gap}
use Rattle.fact_books.specs.Books.{Contents, IsFirstMissing}
use Rattle.fact_books.proofs.GapLemmas.{first-missing}
use Rattle.fact_books.proofs.gaps.missing_from.Goals as goal

pub returns : goal.returns
returns c =
    let gap = c.first_gap.ensures ∙ ap (first_gap c.args.from) c.as_slice.ensures.value in
    subst (λ (b : Contents). IsFirstMissing b.facts c.args.from c.first_gap.result) c.book.view_is
    (subst (IsFirstMissing _ c.args.from) (sym gap) (first-missing _ _ c.book.invariant.kept.rising c.args.from))
