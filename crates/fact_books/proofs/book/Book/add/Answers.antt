use Rattle.std.proofs.Common.{◌≡◌, refl, sym, ap, ◌∙◌, rules}
use Rattle.std.specs.FinSet.{union}
use Rattle.fact_books.specs.Books.{Contents, facts_in}
use Rattle.fact_books.proofs.BookLemmas.{joined-book, of-one-text}
use Rattle.fact_books.proofs.AddLemmas.{same-book, either}
use Rattle.fact_books.proofs.book.Book.add.Goals as goal

pub invariant_of-self : goal.invariant_of-self
invariant_of-self c =
    let one : c.args.self.now.file ≡ c.args.other.now.file =
    of-one-text _ _ _ _ c.known.ensures.file c.known-2.ensures.file c.text.ensures c.text-2.ensures (search rules) in
    let same = ap (λ (b : Contents). b.file) c.self.view_is ∙ one ∙ sym (ap (λ (b : Contents). b.file) c.other.view_is) in
    let kept = c.add_parts.ensures.kept in
    either c.add_parts.result c.add_parts.ensures.added c.add_parts.ensures.back
    (λ facts. joined-book _ _ _ _ _ _ _ _ _ refl c.self.invariant c.other.invariant same kept
    (facts ∙ ap (λ rs. union (facts_in c.self.inside.table c.self.inside.runs.items) (facts_in c.other.inside.table rs)) c.as_slice.ensures.value))
    (λ facts. same-book _ _ _ _ _ c.self.invariant kept facts)

pub returns-clause-same : goal.returns-clause-same
returns-clause-same c =
    let one : c.args.self.now.file ≡ c.args.other.now.file =
    of-one-text _ _ _ _ c.known.ensures.file c.known-2.ensures.file c.text.ensures c.text-2.ensures (search rules) in
    search rules
