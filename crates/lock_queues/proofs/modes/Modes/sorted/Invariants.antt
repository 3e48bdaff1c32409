use Rattle.std.proofs.Common.{◌≡◌, ◌++◌, List, length}
use Rattle.finite_maps.specs.Map.{get, entries}
use Rattle.lock_modes.specs.Resource.{resource_order}
use Rattle.lock_modes.specs.declared.resource.Resource.{Resource}
use Rattle.lock_queues.specs.Tabulate.{tabulate}
use Rattle.lock_queues.proofs.modes.Modes.sorted.Given as goal

-- those from behind are there
abbrev pub invariant-left : goal.invariant-left
invariant-left l = (done : List Resource) × (l.resources.items ++ done ≡ l.fn.resources.items)
    × (l.all ≡ entries (tabulate resource_order (get l.self) done))

abbrev pub decreases-left : goal.decreases-left
decreases-left l = length l.resources.items
