-- The facts of a shard as its walk gives them.
use mathlib.Core.List.{IsPrefix}
use Rattle.std.specs.Prelude.{◌≡◌, ℕ, ◌≤◌, false, List, Some, slice_get}
use Rattle.step_reducer.specs.Shardwise.{Shardwise}
use Rattle.fact_books.specs.Entries.{Told}
use Rattle.fact_books.specs.Known.{IsKnown}
use Rattle.fact_books.specs.Books.{AllRecordable}
use Rattle.fact_books.specs.Building.{Building, AreFactsOf}

-- each outcome that is known by a number is the one that was told by it
abbrev pub AreTold : List Told → List (ℕ × Told) → Type 0
AreTold told known = (n : ℕ) (outcome : Told) → IsKnown known n outcome → slice_get told n ≡ Some outcome

-- the facts of the ranks that the walk has passed since it stood there are gathered
pub record IsGathering (begun walk : Shardwise) (b : Building) : Type 0 where
  pub same : walk ≡ record begun { at = walk.at; told = walk.told }
  pub whole : walk.spent ≡ false
  pub from : begun.at ≤ walk.at
  pub next : b.next ≤ walk.at
  pub facts : AreFactsOf begun.reduce begun.file.run begun.at walk.at b.facts
  pub recordable : AllRecordable begun.file.run b.facts
  pub front : IsPrefix begun.told walk.told
  pub known : AreTold walk.told b.known
