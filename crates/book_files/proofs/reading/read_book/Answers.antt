use Rattle.transcripts.specs.Counted.{unread}
use Rattle.book_files.proofs.BookLaws.{known-bytes, taken-fault, taken-short, taken-whole}
use Rattle.book_files.proofs.reading.read_book.Goals as goal

pub returns-in-Ok-clause-book : goal.returns-in-Ok-clause-book
returns-in-Ok-clause-book g c = known-bytes _ c.in-Ok.bytes.items c.book_of_bytes.result c.in-Ok.ensures.first c.book_of_bytes.ensures.book

pub returns-in-Ok-clause-taken : goal.returns-in-Ok-clause-taken
returns-in-Ok-clause-taken g c =
    taken-whole (unread g.R.Read.remaining c.args.input.now) (unread g.R.Read.remaining c.read_up_to.new.self) c.in-Ok.bytes.items
    c.book_of_bytes.result c.in-Ok.ensures.first c.in-Ok.ensures.rest c.book_of_bytes.ensures.plain
