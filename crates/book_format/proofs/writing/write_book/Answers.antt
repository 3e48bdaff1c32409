use Rattle.std.proofs.Common.{subst}
use Rattle.book_format.specs.Pieces.{text_in}
use Rattle.book_format.specs.Writing.{IsTooLarge}
use Rattle.book_format.proofs.Utf8Lemmas.{pieces-back}
use Rattle.book_format.proofs.writing.write_book.Goals as goal

-- the whole text is written
pub returns-in-Ok-clause-written : goal.returns-in-Ok-clause-written
returns-in-Ok-clause-written g c =
    let text = text_in c.in_ok-pieces.pieces in
    let are = c.in_ok-pieces.ensures.pieces in
    (text, are.text, (λ l. c.in_ok-pieces.ensures.fit (subst (IsTooLarge text) are.runs_are l)), c.in-Ok.ensures)

-- and reads as the book
pub returns-in-Ok-clause-back : goal.returns-in-Ok-clause-back
returns-in-Ok-clause-back g c =
    let are = c.in_ok-pieces.ensures.pieces in (
      text_in c.in_ok-pieces.pieces,
      c.in-Ok.ensures,
      pieces-back c.args.book.now c.in_ok-pieces.pieces are c.in_ok-pieces.ensures.fit c.in_ok-pieces.ensures.widths c.in_ok-pieces.ensures.utf8 c.known.ensures.file c.known.ensures.facts,
    )

-- and else a front of it
pub returns-clause-written : goal.returns-clause-written
returns-clause-written g c =
    let text = text_in c.in_ok-pieces.pieces in
    let are = c.in_ok-pieces.ensures.pieces in
    (text, are.text, (λ l. c.in_ok-pieces.ensures.fit (subst (IsTooLarge text) are.runs_are l)), c.in-Err.ensures)
