use Rattle.book_files.proofs.BookLaws.{plain-json}
use Rattle.book_files.proofs.reading.book_of_bytes.Goals as goal

pub returns-clause-plain : goal.returns-clause-plain
returns-clause-plain c = plain-json _ c.book_of_few.result c.book_of_few.ensures
