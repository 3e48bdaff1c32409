-- One run after another, joined to one book: what the code keeps between them.
use Rattle.std.specs.Prelude.{◌≡◌, ◌↔◌, ℕ, ◌<◌, ◌⊎◌, true, List, Result, Ok, Err}
use mathlib.Core.Option.{some}
use lib.ListN.{get_elem?}
use Rattle.bound_specs.specs.Spec.{Spec, SpecFile}
use Rattle.rank_facts.specs.declared.fact.Fact.{Fact}
use Rattle.step_reducer.specs.Walking.{Starts}
use Rattle.fact_books.specs.Entries.{recorded}
use Rattle.fact_books.specs.Books.{Contents, joined}
use Rattle.book_jobs.specs.declared.job.Job.{Job}
use Rattle.book_jobs.specs.JobTrees.{leaves}
use Rattle.book_jobs.specs.Jobs.{InLeaves, IsJobOf}
use Rattle.shard_board.specs.Changes.{IsPlanOf}
use Rattle.shard_farm.specs.Farming.{InShards, AreShardFacts, IsNotFarmed}
use Rattle.farm_headline.specs.declared.headline.Plan.{Plan}
use Rattle.farm_headline.specs.declared.headline.HeadlineFault.{HeadlineFault}
use Rattle.farm_headline.specs.declared.headline.HeadlineFault.TheVariants as fault_of
use Rattle.farm_headline.specs.Runs.{ArePlansOf, IsNotRun}
use Rattle.farm_headline.specs.Headline.{HoldsTheRuns}

-- the book holds the facts of all runs, or they are not all made
abbrev pub AreRun : SpecFile → Job → List Plan → Result Contents HeadlineFault → Type 0
AreRun file job plans (Ok book) = HoldsTheRuns file job plans book
AreRun file job plans (Err fault) = IsNotRun file job plans fault

-- one of the first so many plans has the rank, with that fact under its flag
abbrev pub HaveFactBelow : Spec → List Plan → ℕ → ℕ → Fact → Type 0
HaveFactBelow spec plans n r fact = (k : ℕ) × ((plan : Plan)
    × ((k < n) × ((get_elem? plans k ≡ some plan) × InShards plan.reduce spec plan.shards.items r fact)))

-- the book holds the facts of the job and of the first so many plans
pub record HoldsTheFirst (file : SpecFile) (job : Job) (plans : List Plan) (n : ℕ) (book : Contents) : Type 0 where
  pub job_lawful : IsJobOf file.run job
  pub plans_lawful : ArePlansOf file.run plans n
  pub started : Starts file.run
  pub file_is : book.file ≡ file
  pub facts : (r : ℕ) (fact : Fact) → (recorded book.facts r fact ≡ true) ↔ (InLeaves file.run (leaves job) r fact ⊎ HaveFactBelow file.run plans n r fact)

-- the plan's book, or why it is not run whole
abbrev pub IsFarmed : SpecFile → Plan → ℕ → Result Contents HeadlineFault → Type 0
IsFarmed file plan place (Ok book) =
    IsPlanOf file.run plan.shards.items plan.workers × Starts file.run × (book.file ≡ file)
    × AreShardFacts plan.reduce file.run plan.shards.items book.facts
IsFarmed file plan place (Err (fault_of.Plan at error)) = (at ≡ place) × IsNotFarmed plan.reduce file plan.shards.items plan.workers error
IsFarmed file plan place (Err fault_of.NoMemory) = ⊥
IsFarmed file plan place (Err (fault_of.Spec fault)) = ⊥
IsFarmed file plan place (Err (fault_of.Job error)) = ⊥
IsFarmed file plan place (Err (fault_of.Report fault)) = ⊥

-- the plan's facts are joined to a book, or it is not run whole, or memory ran out
abbrev pub IsNextRun : SpecFile → Plan → ℕ → Contents → Result Contents HeadlineFault → Type 0
IsNextRun file plan place book (Ok all) =
    (next : Contents) × IsPlanOf file.run plan.shards.items plan.workers × AreShardFacts plan.reduce file.run plan.shards.items next.facts
    × (book.file ≡ next.file) × (all ≡ joined book next)
IsNextRun file plan place book (Err (fault_of.Plan at error)) = (at ≡ place) × IsNotFarmed plan.reduce file plan.shards.items plan.workers error
IsNextRun file plan place book (Err fault_of.NoMemory) = Unit {0}
IsNextRun file plan place book (Err (fault_of.Spec fault)) = ⊥
IsNextRun file plan place book (Err (fault_of.Job error)) = ⊥
IsNextRun file plan place book (Err (fault_of.Report fault)) = ⊥

-- the join of two books, unless memory ran out
abbrev pub IsJoinedWith : Contents → Contents → Result Contents HeadlineFault → Type 0
IsJoinedWith book next (Ok all) = (book.file ≡ next.file) × (all ≡ joined book next)
IsJoinedWith book next (Err fault) = fault ≡ fault_of.NoMemory
