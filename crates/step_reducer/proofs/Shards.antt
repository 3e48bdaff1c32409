-- The facts of a shard, one rank after another.
use Rattle.std.proofs.Common.{◌≡◌, sym, ap, ◌∙◌, subst, ℕ, ◌+◌, ◌<◌, Bool, List, [], ◌∷◌, ◌++◌, length, get_or, ◌⊎◌, ⊎_elim, arith, length-append}
use Rattle.std.proofs.Math.ListN.{get_or-append}
use Rattle.std.proofs.Math.Seq.{get_or-append_seam}
use Rattle.bound_specs.specs.Spec.{Spec}
use Rattle.rank_facts.specs.Facts.{IsFactOf}
use Rattle.rank_facts.specs.declared.fact.Fact.{Fact}
use Rattle.step_reducer.specs.Walking.{AreFacts}

pub facts-push : (reduce : Bool) (spec : Spec) (first n : ℕ) (facts : List (ℕ × Fact)) (p : ℕ × Fact) → AreFacts reduce spec first n facts → p.0 ≡ first + n
    → IsFactOf reduce spec (first + n) p.1
    → AreFacts reduce spec first (n + 1) (facts ++ p ∷ [])
facts-push reduce spec first n facts p are rank fact = record {
  count_is = (let count = are.count_is in omega (arith, length-append facts (p ∷ []), count));
  each = each;
}
  where
    each : (k : ℕ) (d : ℕ × Fact) → k < n + 1 → ((get_or (facts ++ p ∷ []) k d).0 ≡ first + k) × IsFactOf reduce spec (first + k)
        (get_or (facts ++ p ∷ []) k d).1
    each k d lt = ⊎_elim before last cases
      where
        cases : (k < n) ⊎ (k ≡ n)
        cases = grind arith

        before : k < n → ((get_or (facts ++ p ∷ []) k d).0 ≡ first + k) × IsFactOf reduce spec (first + k) (get_or (facts ++ p ∷ []) k d).1
        before h = subst (λ (q : ℕ × Fact). (q.0 ≡ first + k) × IsFactOf reduce spec (first + k) q.1)
            (sym (get_or-append facts (p ∷ []) d k (let count = are.count_is in omega (arith, count, h)))) (are.each k d h)

        last : k ≡ n → ((get_or (facts ++ p ∷ []) k d).0 ≡ first + k) × IsFactOf reduce spec (first + k) (get_or (facts ++ p ∷ []) k d).1
        last e =
            let at : k ≡ length facts = (let count = are.count_is in omega (arith, count, e)) in
            subst (λ (q : ℕ × Fact). (q.0 ≡ first + k) × IsFactOf reduce spec (first + k) q.1)
            (sym (ap (λ j. get_or (facts ++ p ∷ []) j d) at ∙ get_or-append_seam facts p [] d))
            (rank ∙ ap (λ j. first + j) (sym e), subst (λ j. IsFactOf reduce spec (first + j) p.1) (sym e) fact)
