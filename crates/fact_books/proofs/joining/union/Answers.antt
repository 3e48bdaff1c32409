use Rattle.std.proofs.Common.{sym, ap, ◌∙◌, rules}
use Rattle.std.specs.FinSet.{union}
use Rattle.fact_books.specs.Books.{Contents, facts_in}
use Rattle.fact_books.proofs.BookLemmas.{joined-book}
use Rattle.fact_books.proofs.joining.union.Goals as goal

pub invariant_of-result : goal.invariant_of-result
invariant_of-result c =
    let facts = c.in_ok-table.ensures.facts
    ∙ (λ i. union (facts_in c.a.inside.table (c.as_slice.ensures.value i)) (facts_in c.b.inside.table (c.as_slice-2.ensures.value i))) in
    let same = ap (λ (b : Contents). b.file) c.a.view_is ∙ c.requires ∙ sym (ap (λ (b : Contents). b.file) c.b.view_is) in
    joined-book _ _ _ _ _ _ _ _ _ (search rules) c.a.invariant c.b.invariant same c.in_ok-table.ensures.kept facts
