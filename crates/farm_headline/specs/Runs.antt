-- What is run of a spec: by a job, by plans, by any runs; and why it is not.
use Rattle.std.specs.Prelude.{◌≡◌, ℕ, ◌<◌, ◌⊎◌, Bool, List, [], ◌∷◌, ◌++◌}
use mathlib.Core.Option.{some}
use lib.ListN.{get_elem?}
use Rattle.bound_specs.specs.Spec.{Spec, SpecFile}
use Rattle.rank_facts.specs.declared.fact.Fact.{Fact}
use Rattle.rank_facts.specs.declared.shard.Shard.{Shard}
use Rattle.step_reducer.specs.Walking.{Starts}
use Rattle.book_jobs.specs.declared.job.Job.{Job}
use Rattle.book_jobs.specs.JobTrees.{folded, leaves}
use Rattle.book_jobs.specs.Jobs.{InLeaves, IsJobOf, IsNotMade}
use Rattle.shard_board.specs.Changes.{IsPlanOf}
use Rattle.shard_farm.specs.Farming.{InShards, IsNotFarmed}
use Rattle.range_progress.specs.Cutting.{IsInOne}
use Rattle.farm_headline.specs.declared.headline.Plan.{Plan}
use Rattle.farm_headline.specs.declared.headline.HeadlineFault.{HeadlineFault}
use Rattle.farm_headline.specs.declared.headline.HeadlineFault.TheVariants as fault_of

-- ---- a job and plans

-- the shards of a job, from left to right
abbrev pub shards_in : Job → List Shard
shards_in = folded (λ shard reduce. shard ∷ []) (λ a b. a ++ b)

-- the job runs the rank in one of its shards, or a plan's workers do. A job of one empty shard leaves all to the plans
abbrev pub IsRun : Job → List Plan → ℕ → Type 0
IsRun job plans r = IsInOne (shards_in job) r ⊎ ((k : ℕ) × ((plan : Plan) × ((get_elem? plans k ≡ some plan) × IsInOne plan.shards.items r)))

-- one of the plans has the rank, with that fact under its flag
abbrev pub HaveFact : Spec → List Plan → ℕ → Fact → Type 0
HaveFact spec plans r fact = (k : ℕ) × ((plan : Plan) × ((get_elem? plans k ≡ some plan) × InShards plan.reduce spec plan.shards.items r fact))

-- the first so many plans are lawful
abbrev pub ArePlansOf : Spec → List Plan → ℕ → Type 0
ArePlansOf spec plans n = (k : ℕ) (plan : Plan) → k < n → get_elem? plans k ≡ some plan → IsPlanOf spec plan.shards.items plan.workers

-- why the runs are not all made: the job is refused, or else the first plan that is, unless memory ran out
abbrev pub IsNotRun : SpecFile → Job → List Plan → HeadlineFault → Type 0
IsNotRun file job plans (fault_of.Job error) = IsNotMade file.run job error
IsNotRun file job plans (fault_of.Plan place error) =
    IsJobOf file.run job × Starts file.run × ArePlansOf file.run plans place
    × ((plan : Plan) × ((get_elem? plans place ≡ some plan) × IsNotFarmed plan.reduce file plan.shards.items plan.workers error))
IsNotRun file job plans fault_of.NoMemory = Unit {0}
IsNotRun file job plans (fault_of.Spec fault) = ⊥
IsNotRun file job plans (fault_of.Report fault) = ⊥

-- ---- any runs

-- a run: of a job, or of shards that workers run under one flag
pub data AnyRun : Type 0 where
  of_job : Job → AnyRun
  of_shards : Bool → List Shard → AnyRun

-- those of plans, in their order
abbrev pub farms_of : List Plan → List AnyRun
farms_of [] = []
farms_of (plan ∷ plans) = of_shards plan.reduce plan.shards.items ∷ farms_of plans

-- the run has the rank, with that fact
abbrev pub HasFactBy : Spec → AnyRun → ℕ → Fact → Type 0
HasFactBy spec (of_job job) r fact = InLeaves spec (leaves job) r fact
HasFactBy spec (of_shards reduce shards) r fact = InShards reduce spec shards r fact

-- one of these runs has it
abbrev pub WasRunByOne : Spec → List AnyRun → ℕ → Fact → Type 0
WasRunByOne spec [] r fact = ⊥
WasRunByOne spec (x ∷ xs) r fact = HasFactBy spec x r fact ⊎ WasRunByOne spec xs r fact

-- the run has the rank in one of its shards
abbrev pub IsRunBy : AnyRun → ℕ → Type 0
IsRunBy (of_job job) r = IsInOne (shards_in job) r
IsRunBy (of_shards reduce shards) r = IsInOne shards r

-- one of these runs has it there
abbrev pub IsRunByOne : List AnyRun → ℕ → Type 0
IsRunByOne [] r = ⊥
IsRunByOne (x ∷ xs) r = IsRunBy x r ⊎ IsRunByOne xs r
