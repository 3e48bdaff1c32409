-- What contracts see of a world that remembers.
use Rattle.std.specs.Prelude.{ℕ, Bool, true, false, List, get_or}
use Rattle.bound_specs.specs.Spec.{SpecFile, no_step}
use Rattle.numbered_specs.specs.Numbers.{Numbers}
use Rattle.machine_model.specs.World.{World}
use Rattle.rank_facts.specs.Quiet.{is_quiet}
use Rattle.events.specs.declared.event.Event.{Event}

-- a spec with its numbers, the world now, the worlds at the marks that stand, the newest first, the outcomes that were told of it, in the order in which
-- they were told first, whether a step was refused memory and the world has not gone back since, and whether the machine has made all that was asked,
-- and so stands in the world now
pub record KnownRunning : Type 0 where
  pub file : SpecFile
  pub numbers : Numbers
  pub world : World
  pub marked : List World
  pub told : List (List (List Event))
  pub spent : Bool
  pub level : Bool

-- the steps with these numbers are quiet in the world now; in one that is spent nothing is
abbrev pub is_quiet_in : KnownRunning → ℕ → ℕ → Bool
is_quiet_in r first second =
    elim r.spent [ true ↦ false | false ↦ is_quiet r.world (get_or r.file.run.steps first no_step) (get_or r.file.run.steps second no_step) ]
