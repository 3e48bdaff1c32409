-- What a job makes, and why it is refused.
use Rattle.std.specs.Prelude.{◌≡◌, ◌↔◌, ℕ, ◌+◌, ◌<◌, ◌≤◌, true, List, [], ◌∷◌, ◌++◌, ◌⊎◌}
use Rattle.bound_specs.specs.Spec.{Spec, ranks}
use Rattle.machine_model.specs.Start.{start}
use Rattle.rank_facts.specs.Facts.{IsFactOf}
use Rattle.rank_facts.specs.declared.fact.Fact.{Fact}
use Rattle.session_machine.specs.Running.{IsNotRunBy}
use Rattle.session_machine.specs.declared.error.RunError.{RunError}
use Rattle.session_machine.specs.declared.error.RunError.TheVariants as run_error
use Rattle.rank_facts.specs.declared.shard.Shard.{Shard}
use Rattle.rank_facts.specs.declared.shard.TheConstants.{MAX_RANKS}
use Rattle.rank_facts.specs.Shards.{IsShardOf}
use Rattle.book_jobs.specs.declared.job.Job.{Job}
use Rattle.book_jobs.specs.declared.job.TheConstants.{MAX_LEVELS}
use Rattle.book_jobs.specs.declared.leaves.Leaf.{Leaf}
use Rattle.book_jobs.specs.declared.leaves.Pending.{Pending}
use Rattle.fact_books.specs.Entries.{FactSet, recorded}
use Rattle.book_jobs.specs.JobTrees.{leaves, levels, parts}

-- the shard has the rank, with that fact under its flag
abbrev pub HasFactIn : Spec → Leaf → ℕ → Fact → Type 0
HasFactIn spec leaf r fact = (leaf.shard.first ≤ r) × (r < leaf.shard.end) × IsFactOf leaf.reduce spec r fact

-- one of the shards has it
abbrev pub InLeaves : Spec → List Leaf → ℕ → Fact → Type 0
InLeaves spec [] r fact = ⊥
InLeaves spec (leaf ∷ ls) r fact = HasFactIn spec leaf r fact ⊎ InLeaves spec ls r fact

-- the facts are those of the job's shards: nothing is lost, and nothing is made up
abbrev pub AreLeafFacts : Spec → List Leaf → FactSet → Type 0
AreLeafFacts spec ls facts = (r : ℕ) (fact : Fact) → (recorded facts r fact ≡ true) ↔ InLeaves spec ls r fact

abbrev pub AreJobFacts : Spec → Job → FactSet → Type 0
AreJobFacts spec job facts = AreLeafFacts spec (leaves job) facts

-- each shard is of ranks of the spec, and not too long
abbrev pub AllLawful : Spec → List Leaf → Type 0
AllLawful spec [] = Unit {0}
AllLawful spec (leaf ∷ ls) = IsShardOf spec leaf.shard × AllLawful spec ls

-- the job is not too deep, and each of its shards is lawful
pub record IsJobOf (spec : Spec) (job : Job) : Type 0 where
  pub few : levels job ≤ MAX_LEVELS
  pub lawful : AllLawful spec (leaves job)

-- why a shard cannot be one of the spec
abbrev pub IsOutside : Spec → Shard → RunError → Type 0
IsOutside spec shard run_error.OutOfRange = (shard.end < shard.first) ⊎ (ranks spec < shard.end)
IsOutside spec shard run_error.TooLong = (shard.first ≤ shard.end) × (shard.end ≤ ranks spec) × (shard.first + MAX_RANKS < shard.end)
IsOutside spec shard (run_error.Start error) = ⊥
IsOutside spec shard run_error.NoMemory = ⊥
IsOutside spec shard run_error.TooDeep = ⊥

-- the first shard that is not lawful is refused for that
abbrev pub IsFirstOutside : Spec → List Leaf → RunError → Type 0
IsFirstOutside spec [] error = ⊥
IsFirstOutside spec (leaf ∷ ls) error = IsOutside spec leaf.shard error ⊎ (IsShardOf spec leaf.shard × IsFirstOutside spec ls error)

-- why a job is not made: the first of these that fits, unless memory ran out
abbrev pub IsNotMade : Spec → Job → RunError → Type 0
IsNotMade spec job run_error.TooDeep = MAX_LEVELS < levels job
IsNotMade spec job run_error.OutOfRange = (levels job ≤ MAX_LEVELS) × IsFirstOutside spec (leaves job) run_error.OutOfRange
IsNotMade spec job run_error.TooLong = (levels job ≤ MAX_LEVELS) × IsFirstOutside spec (leaves job) run_error.TooLong
IsNotMade spec job (run_error.Start error) = IsJobOf spec job × IsNotRunBy (run_error.Start error) (start spec)
IsNotMade spec job run_error.NoMemory = Unit {0}

-- ---- what the code keeps

-- the shards of the parts that are pending; the last part comes first
abbrev pub leaves_in : List Pending → List Leaf
leaves_in [] = []
leaves_in (p ∷ ps) = leaves_in ps ++ leaves p.job.now

abbrev pub parts_in : List Pending → ℕ
parts_in [] = 0
parts_in (p ∷ ps) = parts p.job.now + parts_in ps

-- each part ends on this level or above it
abbrev pub AllWithin : ℕ → List Pending → Type 0
AllWithin limit [] = Unit {0}
AllWithin limit (p ∷ ps) = (p.level + levels p.job.now ≤ limit + 1) × AllWithin limit ps

-- what was found and what is pending make up the job
pub record IsFolding (job : Job) (found : List Leaf) (rest : List Pending) : Type 0 where
  pub all : found ++ leaves_in rest ≡ leaves job
  pub few : AllWithin MAX_LEVELS rest → levels job ≤ MAX_LEVELS
  pub deep : levels job ≤ MAX_LEVELS → AllWithin MAX_LEVELS rest
