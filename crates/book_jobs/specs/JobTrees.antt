-- Jobs: the shards that they run, and how deep they are.
use Rattle.std.specs.Prelude.{◌≡◌, ℕ, suc, ◌+◌, max, Bool, List, [], ◌∷◌, ◌++◌}
use Rattle.rank_facts.specs.declared.shard.Shard.{Shard}
use Rattle.book_jobs.specs.declared.leaves.Leaf.{Leaf}
use Rattle.book_jobs.specs.declared.job.Job.{Job, more_of-Job, end_of-Job, Run, Join'}
use Rattle.book_jobs.specs.declared.job.Parts.{Parts}
use Rattle.book_jobs.specs.declared.job.Parts.TheVariants.{Shard as OneShard, Both}

-- the join of two jobs
abbrev pub join_of : Job → Job → Job
join_of a b = Join' tt (more_of-Job a end_of-Job) tt (more_of-Job b end_of-Job)

-- a job folded, by what a shard gives and what a join gives of both its parts
abbrev pub folded : {A : Type 0} → (Shard → Bool → A) → (A → A → A) → Job → A
folded run join (Run shard reduce) = run shard reduce
folded run join (Join' _ (more_of-Job a end_of-Job) _ (more_of-Job b end_of-Job)) = join (folded run join a) (folded run join b)

-- the shards from left to right
abbrev pub leaves : Job → List Leaf
leaves = folded (λ shard reduce. record { shard = shard; reduce = reduce } ∷ []) (λ a b. a ++ b)

abbrev pub levels : Job → ℕ
levels = folded (λ shard reduce. 1) (λ a b. suc (max a b))

-- how many shards and joins there are
abbrev pub parts : Job → ℕ
parts = folded (λ shard reduce. 1) (λ a b. suc (a + b))

-- how much is left to let go, where a left part counts twice
abbrev pub weight : Job → ℕ
weight = folded (λ shard reduce. 1) (λ a b. suc (a + (a + b)))

abbrev pub AreParts : Job → Parts → Type 0
AreParts job OneShard = weight job ≡ 1
AreParts job (Both a b) = job ≡ join_of a b
