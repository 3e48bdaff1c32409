use Rattle.std.proofs.Common.{◌≡◌, refl, sym, ◌∙◌, true, false, inl, inr}
use Rattle.book_format.proofs.EndLemmas.{named-told, named-tells}
use Rattle.book_format.proofs.Steps.{run-refused, run-more, runs-read}
use Rattle.book_format.proofs.reading.runs.runs_of.Goals as goal

pub returns-in-Err : goal.returns-in-Err
returns-in-Err c =
    run-refused c.args.spec.now.run c.args.outcomes c.args.values.now c.loop-value.runs.items c.as_slice.result.now c.loop-value.facts c.loop-value.ends
    c.loop-value.value-index c.value-item.result c.loop-value-test.true c.value-item.is c.as_slice.ensures.value c.loop-value.invariant
    c.in-Err.error c.in-Err.ensures

pub loop-value-preserved : goal.loop-value-preserved
loop-value-preserved c =
    run-more c.args.spec.now.run c.args.outcomes c.args.values.now c.loop-value.runs.items c.as_slice.result.now c.loop-value.facts c.loop-value.ends
    c.loop-value.value-index c.value-item.result c.loop-value-test.true c.value-item.is c.as_slice.ensures.value c.loop-value.invariant c.in-Ok.run' _ _
    c.in_ok-push.ensures.items c.in-Ok.ensures (c.note.ensures c.args.outcomes c.loop-value.runs.items)

pub returns-then-not-all_named : goal.returns-then-not-all_named
returns-then-not-all_named c =
    let are = runs-read c.args.spec.now.run c.args.outcomes c.args.values.now c.loop-value.runs.items c.loop-value.facts c.loop-value.ends
    c.loop-value.value-index
    c.loop-value-test.false c.loop-value.invariant in
    inl (inl (
      c.loop-value.runs.items,
      are,
      inr (
        λ named.
            (let f : true ≡ false = sym (c.all_named.ensures.1
            (named-tells c.args.outcomes c.loop-value.ends c.loop-value.runs.items c.loop-value.invariant.ends_are named))
            ∙ c.if-not-all_named.true in absurd (cc)),
        refl,
      ),
    ))

pub returns : goal.returns
returns c =
    let are = runs-read c.args.spec.now.run c.args.outcomes c.args.values.now c.loop-value.runs.items c.loop-value.facts c.loop-value.ends
    c.loop-value.value-index
    c.loop-value-test.false c.loop-value.invariant in
    inl (
      c.loop-value.runs.items,
      are,
      inl (
        named-told c.args.outcomes c.loop-value.ends c.loop-value.runs.items c.loop-value.invariant.ends_are
            (c.all_named.ensures.0 c.if-not-all_named.false),
        refl,
      ),
    )
