-- What facts are tested on, and up to where a fact is true.
use Rattle.std.specs.Prelude.{◌≡◌, ℕ, ◌+◌, ◌<◌, ◌≤◌, List, length, Option, Some, None}
use Rattle.perm_ranks.specs.Words.{Word}
use Rattle.perm_ranks.specs.Blocks.{Block, HasRank, IsBlockOf, end_of}
use Rattle.bound_specs.specs.Spec.{Spec, SpecFile}
use Rattle.machine_model.specs.World.{World}
use Rattle.machine_model.specs.Start.{Started, start}
use Rattle.rank_facts.specs.Facts.{IsTrueAt}
use Rattle.rank_facts.specs.declared.fact.Fact.{Fact}
use Rattle.known_worlds.specs.Paths.{IsPath}
use Rattle.fact_books.specs.Runs.{Table}
use Rattle.book_audit.specs.Compared.{AreCompared}
use Rattle.book_audit.specs.declared.ground.Ground.{Ground}
use Rattle.book_audit.specs.declared.ground.Ground.TheVariants as ground

-- a path of the spec, with what was told on it compared with the outcomes of a table, or the spec starts in no world
abbrev pub IsGround : SpecFile → Table → Ground → Type 0
IsGround file table (ground.Started tester) = IsPath file tester.path × AreCompared tester.path.world.told table tester.comparisons.last.items
IsGround file table ground.Refused = (w : World) → start file.run ≡ Started w → ⊥

-- the fact is true from the rank on up to an end behind it; none where it is not true at the rank
abbrev pub IsTrueUntil : Spec → Fact → ℕ → Option ℕ → Type 0
IsTrueUntil spec fact rank None = IsTrueAt spec rank fact → ⊥
IsTrueUntil spec fact rank (Some end) = (rank < end) × ((r : ℕ) → rank ≤ r → r < end → IsTrueAt spec r fact)

-- the words that share the letters of the rank's word up to the one behind the place end here
pub record AreAlikeTo (counts : List ℕ) (rank place end : ℕ) : Type 0 where
  pub shared : Word
  pub block : Block
  pub is_block : IsBlockOf counts shared block
  pub letters : length shared ≡ place + 2
  pub has : HasRank block rank
  pub end_is : end ≡ end_of block
