use Rattle.std.proofs.Common.{subst, ◌<◌, length, arith, rules}
use Rattle.fact_books.specs.Runs.{IsNumbered}
use Rattle.fact_books.proofs.RunLemmas.{AllSound-at}
use Rattle.fact_books.proofs.merging.renumber.Goals as goal

pub bounds-numbers-n : goal.bounds-numbers-n
bounds-numbers-n c =
    subst (IsNumbered (length c.args.numbers.now)) c.in-Ran.is (AllSound-at _ c.args.runs.now c.loop-run.run-index _ (omega arith) c.requires.sound).0

pub offset_bounds-numbers-n : goal.offset_bounds-numbers-n
offset_bounds-numbers-n c =
    let lt : c.in-Ran.n < length c.args.numbers.now =
    subst (IsNumbered (length c.args.numbers.now)) c.in-Ran.is (AllSound-at _ c.args.runs.now c.loop-run.run-index _ (omega arith) c.requires.sound).0 in
    search rules
