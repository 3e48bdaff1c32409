use Rattle.std.proofs.Common.{arith}
use Rattle.fact_books.specs.Sweep.{leads_of}
use Rattle.fact_books.proofs.FillLemmas.{fills-trans, fills-stops}
use Rattle.fact_books.proofs.filling.fill.Goals as goal

pub returns-in-Err-clause-stop : goal.returns-in-Err-clause-stop
returns-in-Err-clause-stop c =
    fills-stops c.args.outcomes.now
    (leads_of c.args.shape.now) c.args.active.now c.args.until c.in_ok-leads.last c.args.done.now.items c.loop-done.done.items c.in-Err.error
    c.loop-done.invariant.1 c.in_ok-leads.ensures.few c.loop-done.invariant.3 c.in-Err.ensures.stop

pub loop-done-preserved : goal.loop-done-preserved
loop-done-preserved c =
    let f = c.in-Ok.ensures in
    let low = c.loop-done.invariant.1 in
    let few = c.in_ok-leads.ensures.few in
    let some = c.in_ok-leads.ensures.some in
    let filled = f.filled in (
      f.numbered,
      omega (arith, low, filled, some, c.len-rank.ensures),
      omega (arith, filled, few),
      fills-trans c.args.outcomes.now (leads_of c.args.shape.now) c.args.active.now c.args.until c.in_ok-leads.last c.args.done.now.items c.loop-done.done.items
          c.fill_block.new.done.items low few c.loop-done.invariant.3 f.values,
    )
