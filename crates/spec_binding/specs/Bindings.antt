-- What the code has of bound sessions and orders.
use Rattle.std.specs.Prelude.{◌≡◌, ◌≢◌, ℕ, List, []}
use Rattle.spec_binding.specs.declared.blocks.BoundSession.{BoundSession as Written}
use Rattle.bound_specs.specs.declared.orders.Orders.{Orders}
use Rattle.bound_specs.specs.declared.orders.Orders.TheVariants.{Words, Lines}
use Rattle.bound_specs.specs.Binding.{BoundSession}

abbrev pub bound_session : Written → BoundSession
bound_session s = record { setup = s.setup; steps = s.steps.items }

-- a shape is that of these counts of steps, and lines are some
abbrev pub FitsCounts : List ℕ → Orders → Type 0
FitsCounts counts (Words shape) = shape ≡ counts
FitsCounts counts (Lines lines) = lines.items ≢ []
