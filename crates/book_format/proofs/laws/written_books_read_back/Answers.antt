use Rattle.book_format.proofs.BackLemmas.{text-back}
use Rattle.book_format.proofs.laws.written_books_read_back.Goals as goal

pub returns : goal.returns
returns c = text-back
