use Rattle.std.proofs.Common.{sym, ap, ◌∙◌}
use Rattle.finite_maps.specs.Map.{get, entries}
use Rattle.lock_modes.specs.Resource.{resource_order}
use Rattle.lock_queues.specs.Tabulate.{tabulate}
use Rattle.lock_queues.proofs.Listing.{sorted-all}
use Rattle.lock_queues.proofs.modes.Modes.list.Goals as goal

pub returns : goal.returns
returns c =
    let tables = c.self.inside.tables in
    let rows = c.self.inside.rows in
    c.in_ok-list.ensures ∙ c.in_ok-sorted.ensures
    ∙ (λ k. entries (tabulate resource_order (get (sym c.self.view_is k)) (c.in_ok-resources.ensures k)))
    ∙ ap entries (sorted-all tables rows ∙ c.self.view_is)
