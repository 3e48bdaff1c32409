use Rattle.std.proofs.Common.{Ok, Err}
use Rattle.book_format.specs.ReadingBooks.{IsReadOf}
use Rattle.book_commands.proofs.FileLemmas.{of-known, told-error}
use Rattle.book_commands.proofs.joining.book_of_file.Goals as goal

-- a reader at the front of a file is asked for a book
pub returns-in-Err : goal.returns-in-Err
returns-in-Err g c =
    told-error (g.O.Opener.bytes c.args.opener.now c.args.path.now) c.in-Err.error c.told_of.result
    (of-known g.O.Reader.Read.remaining _ c.in-Some.reader c.new-input.result (λ bytes. IsReadOf bytes (Err c.in-Err.error)) c.new-input.ensures.inner c.in-Some.ensures.bytes
    c.in-Err.ensures.book)
    c.told_of.ensures.same
    (λ is. c.open.ensures.read (c.told_of.ensures.fault is))

-- and what every book keeps holds of it
pub returns-in-Ok : goal.returns-in-Ok
returns-in-Ok g c = (
  c.known.ensures.file,
  c.known.ensures.facts,
  of-known g.O.Reader.Read.remaining _ c.in-Some.reader c.new-input.result (λ bytes. IsReadOf bytes (Ok c.in-Ok.book)) c.new-input.ensures.inner c.in-Some.ensures.bytes
      c.in-Ok.ensures.book,
)
