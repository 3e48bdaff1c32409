use Rattle.std.proofs.Common.{◌∙◌, arith}
use Rattle.std.proofs.cmp.SliceLoops.{ended}
use Rattle.order_classes.specs.Order.{rows_cmp}
use Rattle.order_classes.proofs.order.tables_order.Goals as goal

-- one of them has ended, and the lengths decide
pub returns : goal.returns
returns c =
    let is = c.loop-place.invariant in
    ended c.args.a.now c.args.b.now c.loop-place.place c.cmp.result (omega (arith, is.0, is.1, c.loop-place-test.false)) c.cmp.ensures rows_cmp ∙ is.2
