use Rattle.std.proofs.Common.{subst, sym}
use Rattle.std.specs.Prelude.{All}
use Rattle.book_format.specs.Pieces.{text_in, IsUtf8Told}
use Rattle.book_format.specs.Writing.{IsTooLarge}
use Rattle.book_format.proofs.pieces.pieces_of.Goals as goal

-- the text is the book's, and over its limit
pub returns-then-are_too_large-clause-refused : goal.returns-then-are_too_large-clause-refused
returns-then-are_too_large-clause-refused c =
    let are = c.in_ok-pieces.ensures in (
      text_in c.in_ok-pieces.pieces,
      are.text,
      subst (IsTooLarge (text_in c.in_ok-pieces.pieces)) (sym are.runs_are) (c.are_too_large.ensures.large.0 c.if-are_too_large.true),
    )

pub returns-clause-utf8 : goal.returns-clause-utf8
returns-clause-utf8 c = subst (All IsUtf8Told) c.as_slice.ensures.value c.known_texts.ensures
