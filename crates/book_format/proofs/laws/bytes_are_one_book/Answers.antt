use Rattle.book_format.proofs.OneBook.{one-book}
use Rattle.book_format.proofs.laws.bytes_are_one_book.Goals as goal

pub returns : goal.returns
returns c = one-book
