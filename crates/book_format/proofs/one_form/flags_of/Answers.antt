use Rattle.std.proofs.Common.{refl, subst, rules, ◌<◌, length, arith}
use Rattle.fact_books.specs.Runs.{IsNumbered}
use Rattle.fact_books.proofs.RunLemmas.{AllSound-at}
use Rattle.book_format.proofs.NumberingLemmas.{flagging-ran, flagging-swap}
use Rattle.book_format.proofs.one_form.flags_of.Goals as goal
use Rattle.book_format.proofs.one_form.flags_of.Goals.{in-Ran, in-Swap}

-- a number is one of a flag
pub index_mut-requires : goal.index_mut-requires
index_mut-requires c =
    let below : c.in-Ran.n < c.args.outcomes =
    subst (IsNumbered c.args.outcomes) c.in-Ran.is (AllSound-at _ c.args.runs.now c.loop-run.run-index _ c.loop-run-test.true c.requires).0 in
    let count = c.loop-run.invariant.count_is in
    let inside : c.in-Ran.n < length c.loop-run.flags.items = omega (arith, below, count) in
    search rules

pub loop-run-preserved : goal.loop-run-preserved
loop-run-preserved c = elim c.match-run.branch [
  | in-Ran w ↦
      rw (w.flags-is)
      (flagging-ran c.args.outcomes c.args.runs.now c.loop-run.run-index w.in-Ran.n c.loop-run.flags.items _ _ c.loop-run-test.true refl w.in-Ran.is
      (subst (IsNumbered c.args.outcomes) w.in-Ran.is
      (AllSound-at _ c.args.runs.now c.loop-run.run-index _ c.loop-run-test.true c.requires).0) c.loop-run.invariant)
  | in-Swap w ↦
      rw (w.flags-is)
      (flagging-swap c.args.outcomes c.args.runs.now c.loop-run.run-index _ c.loop-run.flags.items _ _ c.loop-run-test.true refl w.in-Swap.is
      c.loop-run.invariant)
]
