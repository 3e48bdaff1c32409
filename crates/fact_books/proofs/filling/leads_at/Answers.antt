use Rattle.std.proofs.Common.{arith}
use Rattle.fact_books.specs.declared.run.Run.{Run}
use Rattle.fact_books.specs.declared.run.Tag.TheVariants.{Ran}
use Rattle.fact_books.specs.Sweep.{leads_of}
use Rattle.fact_books.proofs.FillLemmas.{leads-more}
use Rattle.fact_books.proofs.filling.leads_at.Goals as goal

pub loop-run-preserved : goal.loop-run-preserved
loop-run-preserved c =
    let e = c.lead_of-lead.ensures in
    let few = e.few in
    let below = c.loop-run.invariant.2 in
    let none : Run = record { first = 0; end = 0; tag = Ran 0 } in (
      leads-more (leads_of c.args.shape.now) c.args.rank c.loop-run.last c.lead_of-lead.result.1 c.args.active.now c.loop-run.run-index none
          c.loop-run.leads.items
          c.push.new.self.items c.lead_of-lead.result.0 c.loop-run-test.true few c.loop-run.invariant.0 e.lead c.in_ok-push.ensures.items,
      e.some,
      omega (arith, few, below),
    )
