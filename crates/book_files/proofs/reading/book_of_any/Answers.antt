use Rattle.std.proofs.Common.{subst, Ok}
use Rattle.book_format.specs.ReadingBooks.{IsBookFile}
use Rattle.book_files.proofs.BookLaws.{by-value}
use Rattle.book_files.proofs.reading.book_of_any.Goals as goal

pub returns-in-Some : goal.returns-in-Some
returns-in-Some c = by-value c.args.bytes.items c.in-Some.book (subst (λ bs. IsBookFile bs (Ok c.in-Some.book)) c.as_slice.ensures.value c.in-Some.ensures)
