use Rattle.std.proofs.Common.{◌≡◌, Some, true, arith, rules}
use Rattle.book_files.specs.declared.parts.Facts.TheVariants.{Each, Runs}
use Rattle.book_files.proofs.PartLaws.{facts-book, outcomes-there, runs-book}
use Rattle.book_files.proofs.pieces.book_of_parts.Goals as goal

pub runs_book-requires-clause-outcomes : goal.runs_book-requires-clause-outcomes
runs_book-requires-clause-outcomes c =
    outcomes-there c.args.guess.now c.args.parts c.in-Some-Runs-Some-eq2-Some-true.outcomes c.in-Some-Runs-Some-eq2-Some-true.is-2 c.requires.parts

pub returns-in-Some-Each-Some-eq1-None-true : goal.returns-in-Some-Each-Some-eq1-None-true
returns-in-Some-Each-Some-eq1-None-true c =
    let here = c.in-Some-Each-Some-eq1-None-true in
    let facts : c.args.parts.facts ≡ Some (Each here.builder) = search rules in
    let format : c.args.parts.format ≡ Some 1 = search rules in
    facts-book c.args.guess.now c.args.parts here.builder c.facts_book.result c.requires.guess (facts, format, here.is-2, here.is-3) c.facts_book.ensures

pub returns-then-len-guess : goal.returns-then-len-guess
returns-then-len-guess c =
    let here = c.in-Some-Runs-Some-eq2-Some-true in
    let facts : c.args.parts.facts ≡ Some (Runs here.runs) = search rules in
    let format : c.args.parts.format ≡ Some 2 = search rules in
    let many = c.len.ensures in
    let same = c.if-len-guess.true in
    runs-book c.args.guess.now c.args.parts here.runs here.outcomes c.runs_book.result c.requires.guess (facts, format, here.is-2, here.is-3)
    (omega (arith, many, same)) c.runs_book.ensures
