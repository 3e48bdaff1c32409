-- A walk of permutation lines.
use Rattle.std.specs.Prelude.{◌≡◌, ◌+◌, ◌≤◌, Bool, length}
use Rattle.spec_reader.specs.declared.TheConstants.{MAX_ITEMS}
use Rattle.bound_specs.specs.Spec.{SpecFile, line_of}
use Rattle.known_worlds.specs.Fronts.{front}
use Rattle.known_worlds.specs.Paths.{IsPath}
use Rattle.step_reducer.specs.Fronts.{most_steps}
use Rattle.step_reducer.specs.Walks.{AllHave, RunsOne}
use Rattle.step_reducer.specs.declared.line_walk.LineWalk.{LineWalk}
use Rattle.step_reducer.specs.Saying.{Giving}

-- the walk stands on a path of the spec
abbrev pub IsLines : SpecFile → LineWalk → Type 0
IsLines file w = IsPath file w.path

-- the walk has given the fact of the next line
pub record HasRun (x : LineWalk) (given : Giving) (y : LineWalk) : Type 0 where
  pub lines : IsLines x.path.world.file y
  pub first : given.run.first ≡ x.at
  pub end : given.run.end ≡ x.at + 1
  pub at : y.at ≡ x.at + 1
  pub line : y.path.line.items ≡ line_of x.path.world.file.run x.at
  pub short : length y.path.line.items ≤ MAX_ITEMS
  pub sent : given.sent + front x.path.line.items y.path.line.items ≡ length y.path.line.items
  pub most : given.sent ≤ most_steps x.path.world.file.run given.run.first given.run.fact
  pub facts : (reduce : Bool) → AllHave reduce x.path.world.file.run given.run.first given.run.end given.run.fact
  pub ran : RunsOne given.run.first given.run.end given.run.fact
