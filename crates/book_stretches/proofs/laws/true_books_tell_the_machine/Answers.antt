use Rattle.book_stretches.proofs.TrueBooks.{true-books}
use Rattle.book_stretches.proofs.laws.true_books_tell_the_machine.Goals as goal

pub returns : goal.returns
returns c = true-books
