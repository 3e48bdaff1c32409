-- What turns that have ended are seen as.
use Rattle.std.specs.Prelude.{ℕ, List}
use Rattle.events.specs.declared.event.Event.{Event}

-- what was told in them, in order, and how many they are
pub record Turned : Type 0 where
  pub told : List Event
  pub count : ℕ
