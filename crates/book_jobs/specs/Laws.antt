-- What decides the facts of a job.
use Rattle.std.specs.Prelude.{◌≡◌, List, [], ◌∷◌, ◌⊎◌}
use Rattle.bound_specs.specs.Spec.{Spec}
use Rattle.fact_books.specs.Entries.{FactSet}
use Rattle.book_jobs.specs.declared.job.Job.{Job}
use Rattle.book_jobs.specs.declared.leaves.Leaf.{Leaf}
use Rattle.book_jobs.specs.JobTrees.{leaves}
use Rattle.book_jobs.specs.Jobs.{AreJobFacts}

abbrev pub IsOneOf : Leaf → List Leaf → Type 0
IsOneOf leaf [] = ⊥
IsOneOf leaf (l ∷ ls) = (leaf ≡ l) ⊎ IsOneOf leaf ls

-- jobs that run the same shards make the same facts, however often, in which order and in what grouping
abbrev pub SameLeavesMakeSameFacts : Type 0
SameLeavesMakeSameFacts =
    (spec : Spec) (a b : Job) (s t : FactSet) → AreJobFacts spec a s → AreJobFacts spec b t
    → ((leaf : Leaf) → IsOneOf leaf (leaves a) → IsOneOf leaf (leaves b)) → ((leaf : Leaf) → IsOneOf leaf (leaves b) → IsOneOf leaf (leaves a)) → s ≡ t
