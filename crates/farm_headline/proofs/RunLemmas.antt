-- Facts of the ranks that are run: each rank of a spec that starts has one, and it is true.
use Rattle.std.proofs.Common.{◌≡◌, ◌⊎◌, inl, inr, ⊎_elim, sym, ap, subst, ◌∙◌, ℕ, zero, suc, ◌<◌, ◌≤◌, Bool, cond, List, [], ◌∷◌}
use Rattle.std.proofs.Common.{◌++◌, Some, None, lt-ltb}
use mathlib.Core.Option.{some, some-ne-none, some-injective}
use Rattle.bound_specs.specs.Spec.{Spec, ranks}
use Rattle.rank_facts.specs.Facts.{IsTrueAt, IsFactOf, fact_of, fact_from}
use Rattle.rank_facts.specs.declared.fact.Fact.{Fact}
use Rattle.rank_facts.proofs.TrueFacts.{facts-one, of_start}
use Rattle.rank_facts.specs.declared.shard.Shard.{Shard}
use Rattle.step_reducer.specs.Walking.{Starts}
use Rattle.book_jobs.specs.declared.job.Job.{Job, more_of-Job, end_of-Job, Run, Join'}
use Rattle.book_jobs.specs.JobTrees.{leaves}
use Rattle.book_jobs.specs.Jobs.{InLeaves}
use Rattle.shard_farm.specs.Farming.{InShards}
use Rattle.range_progress.specs.Cutting.{IsInOne}
use Rattle.farm_headline.specs.Runs.{shards_in, AnyRun, of_job, of_shards, HasFactBy, WasRunByOne, IsRunBy, IsRunByOne}
use Rattle.farm_headline.proofs.RangeLemmas.{fact-true}

-- ---- each rank of a spec that starts has a fact

pub has-fact : (reduce : Bool) (spec : Spec) (r : ℕ) → Starts spec → r < ranks spec → (fact : Fact) × IsFactOf reduce spec r fact
has-fact reduce spec r s lt =
    let f = fact_from reduce spec s.0 r in
    let computed : fact_of reduce spec r ≡ Some f = ap (of_start reduce spec r) s.1 ∙ ap (λ b. cond b (Some f) None) (lt-ltb r (ranks spec) lt) in
    (f, (facts-one reduce spec r f).0 computed)

one-append : (xs ys : List Shard) (r : ℕ) → IsInOne (xs ++ ys) r → IsInOne xs r ⊎ IsInOne ys r
one-append [] ys r h = inr h
one-append (x ∷ xs) ys r (zero, (s, (at, has))) = inl (zero, (s, (at, has)))
one-append (x ∷ xs) ys r (suc n, (s, (at, has))) =
    ⊎_elim (λ h. inl (suc h.0, (h.1.0, (h.1.1.0, h.1.1.1)))) (λ h. inr h) (one-append xs ys r (n, (s, (at, has))))

in-left : (spec : Spec) (ls ms : List _) (r : ℕ) (fact : Fact) → InLeaves spec ls r fact → InLeaves spec (ls ++ ms) r fact
in-left spec [] ms r fact h = absurd h
in-left spec (l ∷ ls) ms r fact (inl h) = inl h
in-left spec (l ∷ ls) ms r fact (inr h) = inr (in-left spec ls ms r fact h)

in-right : (spec : Spec) (ls ms : List _) (r : ℕ) (fact : Fact) → InLeaves spec ms r fact → InLeaves spec (ls ++ ms) r fact
in-right spec [] ms r fact h = h
in-right spec (l ∷ ls) ms r fact h = inr (in-right spec ls ms r fact h)

pub job-fact : (spec : Spec) (job : Job) (r : ℕ) → Starts spec → r < ranks spec → IsInOne (shards_in job) r → (fact : Fact) × InLeaves spec (leaves job) r fact
job-fact spec (Run shard reduce) r s lt (zero, (one, (at, has))) =
    let f = has-fact reduce spec r s lt in
    let here : (shard.first ≤ r) × (r < shard.end) = subst (λ (x : Shard). (x.first ≤ r) × (r < x.end)) (sym (some-injective shard one at)) has in
    (f.0, inl (here.0, here.1, f.1))
job-fact spec (Run shard reduce) r s lt (suc n, (one, (at, has))) = absurd (some-ne-none one (sym at))
job-fact spec (Join' _ (more_of-Job a end_of-Job) _ (more_of-Job b end_of-Job)) r s lt h =
    ⊎_elim (λ x. let f = job-fact spec a r s lt x in (f.0, in-left spec (leaves a) (leaves b) r f.0 f.1))
    (λ x. let f = job-fact spec b r s lt x in (f.0, in-right spec (leaves a) (leaves b) r f.0 f.1)) (one-append (shards_in a) (shards_in b) r h)

shards-fact : (reduce : Bool) (spec : Spec) (shards : List Shard) (r : ℕ) → Starts spec → r < ranks spec → IsInOne shards r
    → (fact : Fact) × InShards reduce spec shards r fact
shards-fact reduce spec shards r s lt (n, (shard, (at, has))) =
    let f = has-fact reduce spec r s lt in (f.0, (n, (shard, (at, (has.0, has.1, f.1)))))

run-fact : (spec : Spec) (run : AnyRun) (r : ℕ) → Starts spec → r < ranks spec → IsRunBy run r → (fact : Fact) × HasFactBy spec run r fact
run-fact spec (of_job job) r s lt h = job-fact spec job r s lt h
run-fact spec (of_shards reduce shards) r s lt h = shards-fact reduce spec shards r s lt h

pub one-fact : (spec : Spec) (runs : List AnyRun) (r : ℕ) → Starts spec → r < ranks spec → IsRunByOne runs r → (fact : Fact) × WasRunByOne spec runs r fact
one-fact spec [] r s lt h = absurd h
one-fact spec (x ∷ xs) r s lt (inl h) = let f = run-fact spec x r s lt h in (f.0, inl f.1)
one-fact spec (x ∷ xs) r s lt (inr h) = let f = one-fact spec xs r s lt h in (f.0, inr f.1)

-- ---- and what was run of it is true

pub leaf-true : (spec : Spec) (ls : List _) (r : ℕ) (fact : Fact) → InLeaves spec ls r fact → IsTrueAt spec r fact
leaf-true spec [] r fact h = absurd h
leaf-true spec (leaf ∷ ls) r fact (inl h) = fact-true leaf.reduce spec r fact h.2
leaf-true spec (leaf ∷ ls) r fact (inr h) = leaf-true spec ls r fact h

shards-true : (reduce : Bool) (spec : Spec) (shards : List Shard) (r : ℕ) (fact : Fact) → InShards reduce spec shards r fact → IsTrueAt spec r fact
shards-true reduce spec shards r fact (n, (shard, (at, has))) = fact-true reduce spec r fact has.2

run-true : (spec : Spec) (run : AnyRun) (r : ℕ) (fact : Fact) → HasFactBy spec run r fact → IsTrueAt spec r fact
run-true spec (of_job job) r fact h = leaf-true spec (leaves job) r fact h
run-true spec (of_shards reduce shards) r fact h = shards-true reduce spec shards r fact h

pub one-true : (spec : Spec) (runs : List AnyRun) (r : ℕ) (fact : Fact) → WasRunByOne spec runs r fact → IsTrueAt spec r fact
one-true spec [] r fact h = absurd h
one-true spec (x ∷ xs) r fact (inl h) = run-true spec x r fact h
one-true spec (x ∷ xs) r fact (inr h) = one-true spec xs r fact h
