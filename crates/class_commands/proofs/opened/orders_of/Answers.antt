use Rattle.class_commands.proofs.OpenedLemmas.{orders-more}
use Rattle.class_commands.proofs.opened.orders_of.Goals as goal

pub loop-row-preserved : goal.loop-row-preserved
loop-row-preserved c =
    let spec = c.args.spec.now in
    let l = c.loop-row in
    orders-more spec.text c.args.path.now spec c.args.rows.now l.row-index c.row-item.result l.orders.items c.push_order.new.orders.items
    c.loop-row-test.true c.row-item.is l.invariant c.in-Ok.ensures.pushed
