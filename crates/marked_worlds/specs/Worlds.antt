-- A world of a spec as the program holds it, with the worlds at marks.
use Rattle.std.specs.Prelude.{◌≡◌, suc, Bool, List, All, length, map}
use Rattle.bound_specs.specs.Spec.{SpecFile}
use Rattle.numbered_specs.specs.Numbers.{IsNumbering, Numbers}
use Rattle.machine_model.specs.World.{World, outcome_of}
use Rattle.machine_model.specs.Outcome.{IsOutcomeOf}
use Rattle.machine_model.specs.Sound.{Sound}
use Rattle.events.specs.declared.event.Event.{Event}
use Rattle.session_steps.specs.Stage.{world_in, IsSettled, IsSettledUnless}
use Rattle.marked_worlds.specs.Stages.{MarkedStages}

-- a spec with its numbers, the world now, the worlds at the marks that stand, the newest first, the outcomes that were told of it, in the order in which
-- they were told first, the worlds that were noted, in the order in which they were, and whether a step was refused memory and the world has not gone
-- back since
pub record MarkedRunning : Type 0 where
  pub file : SpecFile
  pub numbers : Numbers
  pub world : World
  pub marked : List World
  pub told : List (List (List Event))
  pub seen : List World
  pub spent : Bool

abbrev pub running_of : SpecFile → MarkedStages → Bool → MarkedRunning
running_of file s spent = record {
  file = file;
  numbers = s.numbers;
  world = world_in file.run.steps s.now;
  marked = map (world_in file.run.steps) s.marked;
  told = s.told;
  seen = map (world_in file.run.steps) s.seen;
  spent = spent;
}

-- what holds of a world of the spec: it is sound, has a part for each session and one for the control session behind them, and tells of each session's
-- own steps alone
pub record IsOfSpec (file : SpecFile) (w : World) : Type 0 where
  pub sound : Sound w
  pub sessions : length w.sessions ≡ suc file.run.sessions
  pub own : IsOutcomeOf file.run (outcome_of file.run.sessions w)

-- what is kept: the numbers are the spec's, and stages are as they are between the steps, at marks whatever has become of the one now
pub record AreSettled (file : SpecFile) (s : MarkedStages) (spent : Bool) : Type 0 where
  pub numbering : IsNumbering file.run s.numbers
  pub now : IsSettledUnless spent file.run.sessions file.run.steps s.now
  pub marked : All (IsSettled file.run.sessions file.run.steps) s.marked
