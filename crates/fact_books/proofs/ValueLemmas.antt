-- The values of the next rank are the votes of its facts.
use Rattle.std.proofs.Common.{◌≡◌, refl, sym, ap, subst, ℕ, zero, suc, ◌<◌, List, [], ◌∷◌, ◌++◌, length, get_or, true, Option, Some, None, arith, inl, inr, ◌⊎◌}
use Rattle.std.specs.FinSet.{contains}
use Rattle.rank_facts.specs.Values.{IsValue, ran, swap}
use Rattle.rank_facts.specs.declared.fact.Fact.TheVariants.{Ran, Swap}
use Rattle.fact_books.specs.Entries.{Told, FactSet, recorded}
use Rattle.fact_books.specs.Values.{Leads, HasOne}
use Rattle.fact_books.specs.Sweep.{LeadsDown, IsDone, IsVote}

module _ (s : FactSet) (leads : Leads) (down : LeadsDown leads) (done : List Told) (so_far : IsDone s leads done) where
  pub vote-value : (o : Told) → IsVote s leads done o → IsValue (recorded s) leads (length done) o
  vote-value o (Ran p, there, is) = ran (subst (λ q. contains s (length done, Ran q) ≡ true) (cc is) there)
  vote-value o (Swap k, there, is) = on (leads (length done) k) refl is
    where
      on : (l : Option ℕ) → leads (length done) k ≡ l → ◌≡◌ {A = Option Told} (elim l [ None ↦ None | Some below ↦ Some (get_or done below []) ]) (Some o)
          → IsValue (recorded s) leads (length done) o
      on None e is = cc
      on (Some below) e is =
          let at = (so_far below (down (length done) k below e)).value in
          let same : get_or done below [] ≡ o = cc is in
          swap there e (subst (IsValue (recorded s) leads below) same at)

  pub value-vote : (r : ℕ) (o : Told) → r ≡ length done → IsValue (recorded s) leads r o → IsVote s leads done o
  value-vote r o e (ran there) = (Ran o, subst (λ n. contains s (n, Ran o) ≡ true) e there, refl)
  value-vote r o e (swap {k = k} {below = below} there to value) =
      let l : leads (length done) k ≡ Some below = subst (λ n. leads n k ≡ Some below) e to in (
        Swap k,
        subst (λ n. contains s (n, Swap k) ≡ true) e there,
        subst (λ x. ◌≡◌ {A = Option Told} (elim x [ None ↦ None | Some b ↦ Some (get_or done b []) ]) (Some o)) (sym l)
            (ap Some (sym ((so_far below (down (length done) k below l)).only o value))),
      )

-- ---- one more value

length_end : (xs : List Told) (x : Told) → length (xs ++ x ∷ []) ≡ suc (length xs)
length_end [] x = refl
length_end (y ∷ xs) x = ap suc (length_end xs x)

at_end : (xs : List Told) (x : Told) → get_or (xs ++ x ∷ []) (length xs) [] ≡ x
at_end [] x = refl
at_end (y ∷ xs) x = at_end xs x

get_or-front : (xs ys : List Told) (n : ℕ) → n < length xs → get_or (xs ++ ys) n [] ≡ get_or xs n []
get_or-front [] ys n lt = absurd (omega (arith, lt))
get_or-front (x ∷ xs) ys zero lt = refl
get_or-front (x ∷ xs) ys (suc n) lt = get_or-front xs ys n (omega (arith, lt))

pub done-more : (s : FactSet) (leads : Leads) (done : List Told) (x : Told) → IsDone s leads done → HasOne s leads (length done) x
    → IsDone s leads (done ++ x ∷ [])
done-more s leads done x so_far one r lt = by cases
  where
    cases : (r < length done) ⊎ (length done ≡ r)
    cases = let e = length_end done x in grind (arith, e)

    by : (r < length done) ⊎ (length done ≡ r) → HasOne s leads r (get_or (done ++ x ∷ []) r [])
    by (inl l) = subst (HasOne s leads r) (sym (get_or-front done (x ∷ []) r l)) (so_far r l)
    by (inr e) = subst (λ n. HasOne s leads n (get_or (done ++ x ∷ []) n [])) e (subst (HasOne s leads (length done)) (sym (at_end done x)) one)
