use Rattle.std.proofs.Common.{sym, subst}
use Rattle.fact_books.specs.Books.{IsAbout}
use Rattle.fact_books.proofs.BookLemmas.{empty-book}
use Rattle.fact_books.proofs.book.Book.empty.Goals as goal

pub invariant_of-result : goal.invariant_of-result
invariant_of-result c = empty-book _ _ _ (subst IsAbout (sym c.in_ok-new.ensures.ok) c.in_ok-about.ensures.is_about) c.new-3.ensures.items
