-- Where moves lead. No public clause cites this module.
use Rattle.std.specs.Prelude.{◌≡◌, ℕ, ◌<◌, ◌≤◌, List, [], ◌∷◌, length, take}
use Rattle.bound_specs.specs.Spec.{Spec, SpecFile, Step}
use Rattle.machine_model.specs.World.{World, blank, send}
use Rattle.machine_model.specs.Start.{Started, start}
use Rattle.known_worlds.specs.declared.moves.Move.{Move}
use Rattle.known_worlds.specs.declared.moves.Move.TheVariants.{Mark, Send}

-- the world in which a spec starts, and a blank one where it does not
abbrev pub first_world : Spec → World
first_world spec = (let w : World = elim (start spec) [ Started w ↦ w | _ ↦ blank ] in w)

-- a mark, or a step of the spec
abbrev pub IsMoveOf : SpecFile → Move → Type 0
IsMoveOf file Mark = Unit {0}
IsMoveOf file (Send k) = k < length file.run.steps

-- the world behind one move
abbrev pub world_after : List Step → World → Move → World
world_after steps w Mark = w
world_after steps w (Send k) = send steps w k

-- the worlds at marks behind one move, the newest first
abbrev pub marked_after : World → List World → Move → List World
marked_after w ws Mark = w ∷ ws
marked_after w ws (Send k) = ws

-- the world behind moves
abbrev pub world_behind : List Step → World → List Move → World
world_behind steps w [] = w
world_behind steps w (m ∷ ms) = world_behind steps (world_after steps w m) ms

-- the worlds at marks behind moves, above those that were there
abbrev pub marked_behind : List Step → World → List World → List Move → List World
marked_behind steps w ws [] = ws
marked_behind steps w ws (m ∷ ms) = marked_behind steps (world_after steps w m) (marked_after w ws m) ms

-- of the first so many moves the newest mark is the move behind the first `place`
abbrev pub IsMarkAt : List Move → ℕ → ℕ → Type 0
IsMarkAt path n place = (steps : List Step) (w : World) (ws : List World)
    → marked_behind steps w ws (take n path) ≡ world_behind steps w (take place path) ∷ marked_behind steps w ws (take place path)

-- behind that move, up to an end, this stays the newest mark
pub record IsNewestMark (path : List Move) (end place : ℕ) : Type 0 where
  pub before : place < end
  pub newest : (n : ℕ) → place < n → n ≤ end → IsMarkAt path n place

-- the first so many moves set no mark
abbrev pub HaveNoMark : List Move → ℕ → Type 0
HaveNoMark path n = (steps : List Step) (w : World) (ws : List World) → marked_behind steps w ws (take n path) ≡ ws
