use Rattle.std.proofs.Common.{◌<◌, ◌≤◌, take}
use Rattle.fact_books.specs.Sweep.{AreLeads, leads_of}
use Rattle.fact_books.proofs.filling.leads_at.Given as goal

abbrev pub invariant-loop-run : goal.invariant-loop-run
invariant-loop-run l = AreLeads (leads_of l.shape) l.rank l.last (take l.run-index l.active) l.leads.items × (l.rank < l.last) × (l.last ≤ l.until)
