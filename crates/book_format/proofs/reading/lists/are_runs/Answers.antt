use Rattle.std.proofs.Common.{refl, subst, inl, take, arith}
use Rattle.std.proofs.lemmas.List.{get_or_default, take_all}
use Rattle.book_format.specs.ReadingRuns.{AreEnds}
use Rattle.book_format.proofs.EndLemmas.{named-told}
use Rattle.book_format.proofs.TextBooks.{run-next, runs-end}
use Rattle.book_format.proofs.reading.lists.are_runs.Goals as goal

pub loop-i-init : goal.loop-i-init
loop-i-init c = record { few = omega arith; ends_are = c.in_ok-ends.ensures; reads = λ r is. is }

pub loop-i-preserved : goal.loop-i-preserved
loop-i-preserved c =
    run-next c.args.spec.now.run c.args.outcomes c.args.runs.now (take c.loop-i.i c.args.runs.now) c.loop-i.facts c.loop-i.ends _ c.loop-i.i _
    c.loop-i-test.true (get_or_default c.args.runs.now c.loop-i.i _ _ c.loop-i-test.true) refl
    (c.is_next_run.ensures c.if-not-is_next_run.false) (c.note.ensures c.args.outcomes) c.loop-i.invariant

pub returns : goal.returns
returns c = λ named.
    let all = take_all c.loop-i.i c.args.runs.now c.loop-i-test.false in
    inl (
      c.args.runs.now,
      runs-end c.args.spec.now.run c.args.outcomes c.args.runs.now c.loop-i.facts c.loop-i.ends c.loop-i.i c.loop-i-test.false c.loop-i.invariant,
      inl (
        named-told c.args.outcomes c.loop-i.ends c.args.runs.now (subst (AreEnds c.args.outcomes c.loop-i.ends) all c.loop-i.invariant.ends_are)
            (c.all_named.ensures.0 named),
        refl,
      ),
    )
