-- A machine that falls behind a path of moves. No public clause cites this module.
use Rattle.std.specs.Prelude.{◌≡◌, ◌==◌, ◌&&◌, not, ◌≤◌, Bool, true, false, List, [], ◌∷◌, length, take, All}
use Rattle.bound_specs.specs.Spec.{SpecFile}
use Rattle.machine_model.specs.World.{World, blank}
use Rattle.plan_pairs.specs.Pairs.{ArePairs}
use Rattle.marked_worlds.specs.Worlds.{MarkedRunning}
use Rattle.known_worlds.specs.Late.{LateRunning}
use Rattle.known_worlds.specs.declared.moves.Move.{Move}
use Rattle.known_worlds.specs.declared.follower.Follower.{Follower}
use Rattle.known_worlds.specs.Moves.{first_world, world_behind, marked_behind, IsMoveOf}

-- the mark below all others, where it is set
abbrev pub root : Bool → World → List World
root true w = w ∷ []
root false w = []

-- all of a machine but where it stands
abbrev pub aside : MarkedRunning → MarkedRunning
aside m = record m { world = blank; marked = []; spent = false }

-- the machine has made the first so many moves of the path, from the world in which the spec starts, with a mark there; but for its world, where it is spent
pub record Follows (file : SpecFile) (path : List Move) (f : Follower) : Type 0 where
  pub of_spec : f.machine.file ≡ file
  pub few : f.made ≤ length path
  pub world : f.machine.spent ≡ false → f.machine.world ≡ world_behind file.run.steps (first_world file.run) (take f.made path)
  pub marked : f.machine.marked ≡ marked_behind file.run.steps (first_world file.run) (root f.is_rooted (first_world file.run)) (take f.made path)
  -- where that mark is missing no move is made
  pub bare : f.is_rooted ≡ false → f.made ≡ 0
  pub whole : f.is_rooted ≡ false → f.machine.spent ≡ false

-- the machine has made all moves of the path, and is not spent
abbrev pub is_level : Follower → List Move → Bool
is_level f path = (f.made == length path) && not f.machine.spent

-- the world behind the path, of a machine that follows it
abbrev pub led : MarkedRunning → Bool → List Move → LateRunning
led m level path = record {
  file = m.file;
  numbers = m.numbers;
  world = world_behind m.file.run.steps (first_world m.file.run) path;
  marked = marked_behind m.file.run.steps (first_world m.file.run) [] path;
  told = m.told;
  seen = m.seen;
  level = level;
}

-- what is kept: the machine follows the path, whose moves are of its spec, and so are the pairs
pub record IsLate (f : Follower) (pairs : List (List Bool)) (path : List Move) : Type 0 where
  pub follows : Follows f.machine.file path f
  pub moves : All (IsMoveOf f.machine.file) path
  pub pairs_are : ArePairs f.machine.file.run pairs
