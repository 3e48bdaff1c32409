-- A world that its machine is to make yet. No public clause cites this module.
use Rattle.std.specs.Prelude.{Bool, not, ◌&&◌, List}
use Rattle.bound_specs.specs.Spec.{SpecFile}
use Rattle.numbered_specs.specs.Numbers.{Numbers}
use Rattle.machine_model.specs.World.{World}
use Rattle.events.specs.declared.event.Event.{Event}
use Rattle.known_worlds.specs.Known.{KnownRunning}

-- a spec with its numbers, the world now, the worlds at the marks that stand, the newest first, the outcomes that were told of it, the worlds that were
-- noted, and whether the machine has made all that was asked, and so stands in the world now
pub record LateRunning : Type 0 where
  pub file : SpecFile
  pub numbers : Numbers
  pub world : World
  pub marked : List World
  pub told : List (List (List Event))
  pub seen : List World
  pub level : Bool

-- what contracts see: nothing of the worlds that were noted
abbrev pub shown : LateRunning → Bool → KnownRunning
shown r spent = record {
  file = r.file;
  numbers = r.numbers;
  world = r.world;
  marked = r.marked;
  told = r.told;
  spent = spent;
  level = r.level && not spent;
}
