-- What a run of shards gives, and why a plan is not run whole.
use Rattle.std.specs.Prelude.{◌≡◌, ◌≢◌, ◌↔◌, ℕ, ◌<◌, ◌≤◌, Bool, true, false, List, [], length, All}
use Rattle.std.specs.List.Sorted.{IsStrictlyIncreasing}
use mathlib.Core.Option.{some}
use lib.ListN.{get_elem?}
use Rattle.bound_specs.specs.Spec.{Spec, SpecFile}
use Rattle.machine_model.specs.Start.{start}
use Rattle.rank_facts.specs.Facts.{IsFactOf}
use Rattle.rank_facts.specs.declared.fact.Fact.{Fact}
use Rattle.session_machine.specs.Running.{IsNotRunBy}
use Rattle.session_machine.specs.declared.error.RunError.TheVariants as run_error
use Rattle.rank_facts.specs.declared.shard.Shard.{Shard}
use Rattle.step_reducer.specs.Walking.{Starts}
use Rattle.fact_books.specs.Entries.{FactSet, recorded}
use Rattle.shard_board.specs.Shown.{has}
use Rattle.shard_board.specs.Changes.{IsPlanOf}
use Rattle.shard_farm.specs.declared.error.Unfinished.{Unfinished}
use Rattle.shard_farm.specs.declared.error.FarmError.{FarmError}
use Rattle.shard_farm.specs.declared.error.FarmError.TheVariants as farm_error

-- the shard has the rank, with that fact
abbrev pub HasFact : Bool → Spec → Shard → ℕ → Fact → Type 0
HasFact reduce spec shard r fact = (shard.first ≤ r) × (r < shard.end) × IsFactOf reduce spec r fact

-- one of the shards has it
abbrev pub InShards : Bool → Spec → List Shard → ℕ → Fact → Type 0
InShards reduce spec shards r fact = (n : ℕ) × ((shard : Shard) × ((get_elem? shards n ≡ some shard) × HasFact reduce spec shard r fact))

-- one of the shards has it whose number is not among these
abbrev pub InShardsBut : Bool → Spec → List Shard → List ℕ → ℕ → Fact → Type 0
InShardsBut reduce spec shards missing r fact =
    (n : ℕ) × ((shard : Shard) × ((get_elem? shards n ≡ some shard) × ((has n missing ≡ false) × HasFact reduce spec shard r fact)))

-- the facts are those of the shards: nothing is lost, and nothing is made up
abbrev pub AreShardFacts : Bool → Spec → List Shard → FactSet → Type 0
AreShardFacts reduce spec shards facts = (r : ℕ) (fact : Fact) → (recorded facts r fact ≡ true) ↔ InShards reduce spec shards r fact

-- the facts are those of all other shards
abbrev pub AreFactsBut : Bool → Spec → List Shard → List ℕ → FactSet → Type 0
AreFactsBut reduce spec shards missing facts = (r : ℕ) (fact : Fact) → (recorded facts r fact ≡ true) ↔ InShardsBut reduce spec shards missing r fact

-- the book has the facts of all shards but those that are missing, whose numbers rise
pub record HasAllBut (reduce : Bool) (file : SpecFile) (shards : List Shard) (left : Unfinished) : Type 0 where
  pub rising : IsStrictlyIncreasing left.missing
  pub below : All (λ n. n < length shards) left.missing
  pub of_spec : left.book.file ≡ file
  pub facts : AreFactsBut reduce file.run shards left.missing left.book.facts

-- why a run of a plan does not begin: the first of these that fits, but for want of memory, which may come in place of a refused start
abbrev pub IsNotBegun : Spec → List Shard → ℕ → FarmError → Type 0
IsNotBegun spec shards workers farm_error.BadPlan = IsPlanOf spec shards workers → ⊥
IsNotBegun spec shards workers (farm_error.Start error) = IsPlanOf spec shards workers × IsNotRunBy (run_error.Start error) (start spec)
IsNotBegun spec shards workers farm_error.NotStarted = IsPlanOf spec shards workers
IsNotBegun spec shards workers (farm_error.NoMemory left) = ⊥

-- what else than a book comes of a run that has begun: what it left, where some shard is missing
abbrev pub IsLeft : Bool → SpecFile → List Shard → FarmError → Type 0
IsLeft reduce file shards (farm_error.NoMemory left) = (left.missing ≢ []) × HasAllBut reduce file shards left
IsLeft reduce file shards farm_error.NotStarted = ⊥
IsLeft reduce file shards (farm_error.Start error) = ⊥
IsLeft reduce file shards farm_error.BadPlan = ⊥

-- why a plan is not run whole: its run does not begin, or it has begun and left some shard missing
abbrev pub IsNotFarmed : Bool → SpecFile → List Shard → ℕ → FarmError → Type 0
IsNotFarmed reduce file shards workers (farm_error.NoMemory left) =
    IsPlanOf file.run shards workers × Starts file.run × IsLeft reduce file shards (farm_error.NoMemory left)
IsNotFarmed reduce file shards workers error = IsNotBegun file.run shards workers error
