use Rattle.std.proofs.Common.{rules}
use Rattle.std.proofs.lemmas.List.Sorted.{ranks_by}
use Rattle.std.proofs.lemmas.Fn.{always_returns_same}
use Rattle.fact_books.specs.declared.run.Run.{Run}
use Rattle.book_format.specs.Canonical.{tag_total}
use Rattle.book_format.proofs.TagLemmas.{sorted-by_tag}
use Rattle.book_format.proofs.canonical.by_tag.Goals as goal

pub returns-clause-sorted : goal.returns-clause-sorted
returns-clause-sorted c =
    sorted-by_tag c.sort_unstable_by.new.self.items
    (c.sort_unstable_by.ensures.sorted _ (ranks_by tag_total (λ (r : Run). r)) (always_returns_same _ _ _ (λ a r f' called. (search rules, search rules))))
