-- The laws of books that a caller joins: of what one call gives, of joins, and that what was run decides the book.
use Rattle.std.specs.Prelude.{◌≡◌, ◌↔◌, ℕ, suc, Bool, cond, List, [], ◌∷◌, ◌++◌}
use Rattle.bound_specs.specs.Spec.{SpecFile}
use Rattle.rank_facts.specs.declared.fact.Fact.{Fact}
use Rattle.rank_facts.specs.declared.shard.Shard.{Shard}
use Rattle.fact_books.specs.Books.{Contents, joined}
use Rattle.fact_books.specs.Building.{AreFactsOf}
use Rattle.book_jobs.specs.declared.job.Job.{Job}
use Rattle.book_jobs.specs.Jobs.{AreJobFacts}
use Rattle.shard_board.specs.Shown.{has}
use Rattle.shard_farm.specs.declared.error.Unfinished.{Unfinished}
use Rattle.shard_farm.specs.Farming.{AreShardFacts, HasAllBut}
use Rattle.farm_headline.specs.declared.headline.Plan.{Plan}
use Rattle.farm_headline.specs.Runs.{AnyRun, of_job, of_shards, farms_of, WasRunByOne}
use Rattle.farm_headline.specs.Headline.{HoldsTheRuns, HoldsAllRuns}

-- a book that `make` gives holds what the job runs
abbrev pub JobsHold : Type 0
JobsHold = (file : SpecFile) (job : Job) (book : Contents) → book.file ≡ file → AreJobFacts file.run job book.facts → HoldsAllRuns file (of_job job ∷ []) book

-- one that `farm_run` gives holds what the workers run
abbrev pub FarmsHold : Type 0
FarmsHold =
    (file : SpecFile) (reduce : Bool) (shards : List Shard) (book : Contents) → book.file ≡ file → AreShardFacts reduce file.run shards book.facts
    → HoldsAllRuns file (of_shards reduce shards ∷ []) book

-- the shards but for those with these numbers, where they are counted on from n
abbrev pub others : List ℕ → ℕ → List Shard → List Shard
others missing n [] = []
others missing n (shard ∷ shards) = cond (has n missing) (others missing (suc n) shards) (shard ∷ others missing (suc n) shards)

-- one that `farm_run` leaves where memory was refused holds the shards that are not missing
abbrev pub LeftsHold : Type 0
LeftsHold =
    (file : SpecFile) (reduce : Bool) (shards : List Shard) (left : Unfinished) → HasAllBut reduce file shards left
    → HoldsAllRuns file (of_shards reduce (others left.missing 0 shards) ∷ []) left.book

-- one with exactly the facts of a range, as `run` writes them, holds the range as one shard
abbrev pub RangesHold : Type 0
RangesHold =
    (file : SpecFile) (reduce : Bool) (first end : ℕ) (book : Contents) → book.file ≡ file → AreFactsOf reduce file.run first end book.facts
    → HoldsAllRuns file (of_shards reduce (record { first = first; end = end } ∷ []) ∷ []) book

-- one of a job and plans holds what they all run
abbrev pub RunsHold : Type 0
RunsHold =
    (file : SpecFile) (job : Job) (plans : List Plan) (book : Contents) → HoldsTheRuns file job plans book
    → HoldsAllRuns file (of_job job ∷ farms_of plans) book

-- the join of two books holds what both hold, and so does any tree of joins
abbrev pub JoinsHold : Type 0
JoinsHold =
    (file : SpecFile) (xs ys : List AnyRun) (a b : Contents) → HoldsAllRuns file xs a → HoldsAllRuns file ys b → HoldsAllRuns file (xs ++ ys) (joined a b)

-- what was run decides the book: neither order, grouping and repeats of shards and of joins nor workers do
abbrev pub RunsDecide : Type 0
RunsDecide =
    (file : SpecFile) (xs ys : List AnyRun) (a b : Contents) → HoldsAllRuns file xs a → HoldsAllRuns file ys b
    → ((r : ℕ) (fact : Fact) → WasRunByOne file.run xs r fact ↔ WasRunByOne file.run ys r fact) → a ≡ b
