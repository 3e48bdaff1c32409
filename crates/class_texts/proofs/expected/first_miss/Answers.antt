use Rattle.std.proofs.Common.{sym, ◌∙◌}
use Rattle.class_texts.proofs.MissLemmas.{miss-next}
use Rattle.class_texts.proofs.expected.first_miss.Goals as goal

-- a class of which it is so is passed
pub loop-place-preserved : goal.loop-place-preserved
loop-place-preserved c =
    sym (miss-next c.args.expected.now c.loop-place.place c.args.rows.now c.is_met_at.result c.loop-place-test.true c.is_met_at.ensures c.if-not-is_met_at.false)
    ∙ c.loop-place.invariant
