-- In which orders the steps of a spec are sent.
use Rattle.std.specs.Prelude.{ℕ, List, [], map, ◌≡◌, ◌≢◌}
use Rattle.bound_specs.specs.declared.orders.Orders.{Orders}
use Rattle.bound_specs.specs.declared.orders.Orders.TheVariants.{Words, Lines}
use Rattle.bound_specs.specs.Spec.{Spec, counts_of, queues_of}

-- the lines that the file gives
abbrev pub lines_of : Orders → List (List ℕ)
lines_of (Words counts) = []
lines_of (Lines lines) = map (λ line. line.items) lines.items

-- the shape is that of the steps; lines are some
abbrev pub IsOrderOf : Orders → Spec → Type 0
IsOrderOf (Words counts) run = counts ≡ counts_of (queues_of run)
IsOrderOf (Lines lines) run = lines.items ≢ []
