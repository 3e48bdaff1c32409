-- The machine of a spec, between the lines that it runs. No public clause cites this module.
use Rattle.std.specs.Prelude.{◌≡◌, ℕ, ◌<◌, false, List, All, length}
use Rattle.bound_specs.specs.Spec.{SpecFile, Step}
use Rattle.machine_model.specs.Start.{Started, start}
use Rattle.marked_worlds.specs.Worlds.{MarkedRunning}

-- it is at the start of the spec
pub record IsAtStart (spec : SpecFile) (m : MarkedRunning) : Type 0 where
  pub of_spec : m.file ≡ spec
  pub starts : start spec.run ≡ Started m.world
  pub whole : m.spent ≡ false

-- each is a step of the spec
abbrev pub AreSteps : List Step → List ℕ → Type 0
AreSteps steps ks = All (λ k. k < length steps) ks
