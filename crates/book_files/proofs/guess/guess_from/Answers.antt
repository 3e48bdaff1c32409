use Rattle.std.proofs.Common.{Ok, string_bytes, subst}
use Rattle.book_format.specs.ReadingBooks.{IsSpecText}
use Rattle.book_files.proofs.BookLaws.{spec-file}
use Rattle.book_files.proofs.guess.guess_from.Goals as goal

pub returns-in-Ok : goal.returns-in-Ok
returns-in-Ok c =
    spec-file (string_bytes c.args.hints.text) c.in-Ok.spec
    (subst (λ text. IsSpecText text (Ok c.in-Ok.spec)) c.as_str.ensures.value c.in-Ok.ensures)
