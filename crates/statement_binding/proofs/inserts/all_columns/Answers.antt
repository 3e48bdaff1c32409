use Rattle.std.proofs.Common.{arith}
use Rattle.binding_model.proofs.OptionLemmas.{numbers-next}
use Rattle.statement_binding.proofs.inserts.all_columns.Goals as goal

pub loop-number-preserved : goal.loop-number-preserved
loop-number-preserved c =
    rw c.in_ok-push.ensures.items (numbers-next c.loop-number.all.items _ c.loop-number.number _ (omega (
      arith,
      c.loop-number-test.true,
      c.width-number-end.ensures,
    )) c.loop-number.invariant)
