-- The names that an outcome is printed with.
use Rattle.std.specs.Prelude.{ℕ, ◌≤◌, List, length, All}
use Rattle.events.specs.declared.event.Event.{Event}
use Rattle.events.specs.Fits.{HasStep}

-- there is a name for each session of the outcome, and for each step that it names
pub record HasNames (sessions steps : List (List ℕ)) (outcome : List (List Event)) : Type 0 where
  pub each_session : length outcome ≤ length sessions
  pub each_step : All (All (HasStep (length steps))) outcome
