-- A line of a spec with the worlds along it, each at a mark.
use Rattle.std.specs.Prelude.{◌≡◌, ℕ, false, List, [], ◌∷◌}
use Rattle.bound_specs.specs.Spec.{Spec, SpecFile, Step}
use Rattle.machine_model.specs.World.{World, blank, send, send_all}
use Rattle.machine_model.specs.Start.{Started, start}
use Rattle.known_worlds.specs.Known.{KnownRunning}
use Rattle.known_worlds.specs.declared.path.MarkedPath.{MarkedPath}

-- the world in which a spec starts, and a blank one where it does not
abbrev pub first_world : Spec → World
first_world spec = (let w : World = elim (start spec) [ Started w ↦ w | _ ↦ blank ] in w)

-- the worlds before each of these steps, the last one first, and behind them those that were there
abbrev pub worlds_before : List Step → List World → World → List ℕ → List World
worlds_before steps ws w [] = ws
worlds_before steps ws w (k ∷ ks) = worlds_before steps (w ∷ ws) (send steps w k) ks

-- the world is the one behind these steps, from the one in which its spec starts, and at marks are those before each of them
pub record IsAlong (ks : List ℕ) (r : KnownRunning) : Type 0 where
  pub whole : r.spent ≡ false
  pub now : r.world ≡ send_all r.file.run.steps (first_world r.file.run) ks
  pub marked : r.marked ≡ worlds_before r.file.run.steps [] (first_world r.file.run) ks

-- a path of a spec that starts
pub record IsPath (file : SpecFile) (p : MarkedPath) : Type 0 where
  pub file_is : p.world.file ≡ file
  pub starts : start file.run ≡ Started (first_world file.run)
  pub along : IsAlong p.line.items p.world
