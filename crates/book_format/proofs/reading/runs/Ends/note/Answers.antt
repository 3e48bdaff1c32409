use Rattle.std.proofs.Common.{◌<◌, refl, subst, length, arith}
use Rattle.book_format.specs.ReadingRuns.{IsTagOf}
use Rattle.book_format.proofs.EndLemmas.{noted-ran, noted-swap}
use Rattle.book_format.proofs.reading.runs.Ends.note.Goals as goal

pub returns-in-Ran : goal.returns-in-Ran
returns-in-Ran c = λ outcomes runs are apart.
    noted-ran outcomes c.args.self.now _ runs c.args.run c.in-Ran.n c.in-Ran.is (subst (IsTagOf (length c.args.self.now.ran.items)) c.in-Ran.is c.requires.tag)
    c.requires.some refl refl are apart

pub returns-in-Swap : goal.returns-in-Swap
returns-in-Swap c = λ outcomes runs are apart.
    let size = c.requires.places in
    let small : c.in-Swap.k < 256 = subst (IsTagOf (length c.args.self.now.ran.items)) c.in-Swap.is c.requires.tag in
    noted-swap outcomes c.args.self.now _ runs c.args.run c.in-Swap.k c.in-Swap.is (omega (arith, size, small)) c.requires.some refl refl are apart
