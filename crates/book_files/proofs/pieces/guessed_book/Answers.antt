use Rattle.book_files.proofs.PartLaws.{text-value}
use Rattle.book_files.proofs.pieces.guessed_book.Goals as goal

pub book_of_parts-requires-clause-parts : goal.book_of_parts-requires-clause-parts
book_of_parts-requires-clause-parts c = let all = c.in-Some.ensures in (all.0, all.2)

pub returns-in-Some : goal.returns-in-Some
returns-in-Some c = text-value c.args.guess.now c.args.text.now c.in-Some.parts c.book_of_parts.result c.in-Some.ensures c.book_of_parts.ensures
