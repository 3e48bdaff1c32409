-- Outcomes, each once, and their numbers in a finite map.
use Rattle.std.proofs.Common.{◌≡◌, refl, sym, ap, ◌∙◌, ℕ, ◌+◌, ◌<◌, ◌^◌, cond, Bool, true, false, List, [], ◌∷◌, ◌++◌, length, length-append}
use Rattle.std.proofs.Common.{slice_get, Option, Some, None, inl, inr, ⊎_elim, arith}
use Rattle.std.proofs.lemmas.Option.{slice_get_within}
use Rattle.std.specs.Cmp.{eq_by_cmp_equiv}
use Rattle.std.specs.FinMap.Entries.{find}
use Rattle.std.specs.Map.{lookup}
use Rattle.std.specs.BTreeMap.{is_at}
use Rattle.finite_maps.specs.Map.{get, insert, empty, get-empty, get-insert, same_key, same_key-true, same_key-refl, same_map, of_entries, get-of_entries}
use Rattle.transcripts.specs.Compact.{outcome_cmp, outcome_total}
use Rattle.transcripts.proofs.OutcomeOrder.{outcome_order}
use Rattle.class_stretches.specs.Groups.{AllDiffer}
use Rattle.fact_books.specs.Entries.{Told}
use Rattle.book_stretches.specs.Classes.{AreNumbered, ByOutcome, HasNumber}
use Rattle.book_stretches.proofs.Places.{more-left, at-last, parts-at}

-- ---- a tree map of the library is a finite map

lookup-find : (es : List (Told × ℕ)) (o : Told) → lookup (is_at (outcome_cmp o)) es ≡ find outcome_cmp o es
lookup-find [] o = refl
lookup-find (e ∷ es) o = ap (cond (same_key outcome_order o e.0) (Some e.1)) (lookup-find es o)

-- a look-up in the tree map is one in the finite map
pub get-numbers : (es : List (Told × ℕ)) (o : Told) → lookup (is_at (outcome_cmp o)) es ≡ get (of_entries outcome_order es) o
get-numbers es o = lookup-find es o ∙ sym (get-of_entries outcome_order es o)

-- a tree map that has something else at one place
updated : (es fs : List (Told × ℕ)) (told : Told) (w : Option ℕ)
    → ((o : Told) → lookup (is_at (outcome_cmp o)) fs ≡ cond (is_at (outcome_cmp told) o) w (lookup (is_at (outcome_cmp o)) es)) → (o : Told)
    → get (of_entries outcome_order fs) o ≡ cond (same_key outcome_order o told) w (get (of_entries outcome_order es) o)
updated es fs told w h o =
    sym (get-numbers fs o) ∙ h o
    ∙ ap (λ b. cond b w (lookup (is_at (outcome_cmp o)) es)) ((eq_by_cmp_equiv outcome_total).symm told o)
    ∙ ap (cond (same_key outcome_order o told) w) (get-numbers es o)

pub put-numbers : (es fs : List (Told × ℕ)) (told : Told) (n : ℕ)
    → ((o : Told) → lookup (is_at (outcome_cmp o)) fs ≡ cond (is_at (outcome_cmp told) o) (Some n) (lookup (is_at (outcome_cmp o)) es))
    → of_entries outcome_order fs ≡ insert (of_entries outcome_order es) told n
put-numbers es fs told n h = same_map _ _ (λ o. updated es fs told (Some n) h o ∙ sym (get-insert (of_entries outcome_order es) told n o))

-- ---- outcomes and their numbers

-- no two numbers have one outcome
pub differ : (all : List Told) (by : ByOutcome) → AreNumbered all by → AllDiffer all
differ all by is n m o e f = let a = is.each n o e in let b = is.each m o f in let h : Some n ≡ Some m = sym a ∙ b in cc

pub numbered-none : AreNumbered [] empty
numbered-none = record {
  each = λ n o e. absurd (let lt = slice_get_within [] n o e in omega (arith, lt));
  there = λ n o e. (let bad : Some n ≡ None = sym e ∙ get-empty outcome_order ℕ o in cc);
  few = omega arith;
}

-- with one more, which was not there
pub numbered-more : (all : List Told) (by : ByOutcome) (o : Told) → AreNumbered all by → ((n : ℕ) → slice_get all n ≡ Some o → ⊥)
    → length all + 1 < 2 ^ 32 → AreNumbered (all ++ o ∷ []) (insert by o (length all))
numbered-more all by o is absent few = record {
  each = λ n p e.
      ⊎_elim
      (λ h. kept n p h (same_key outcome_order p o) refl)
      (λ h. ap (get (insert by o (length all))) h.1 ∙ get-insert by o (length all) o
      ∙ ap (λ b. cond b (Some (length all)) (get by o)) (same_key-refl outcome_order o) ∙ ap (λ m. Some m) (sym h.0)) (parts-at all o n p e);
  there = λ n p e. found n p e (same_key outcome_order p o) refl;
  few = (let more = length-append all (o ∷ []) in omega (arith, more, few));
}
  where
    at : (p : Told) (b : Bool) → same_key outcome_order p o ≡ b → get (insert by o (length all)) p ≡ cond b (Some (length all)) (get by p)
    at p b e = get-insert by o (length all) p ∙ ap (λ c. cond c (Some (length all)) (get by p)) e

    kept : (n : ℕ) (p : Told) → slice_get all n ≡ Some p → (b : Bool) → same_key outcome_order p o ≡ b → get (insert by o (length all)) p ≡ Some n
    kept n p h true e = absurd (absent n (h ∙ ap (λ q. Some q) (same_key-true outcome_order p o e)))
    kept n p h false e = at p false e ∙ is.each n p h

    found : (n : ℕ) (p : Told) → get (insert by o (length all)) p ≡ Some n → (b : Bool) → same_key outcome_order p o ≡ b
        → slice_get (all ++ o ∷ []) n ≡ Some p
    found n p h true e =
        let here : Some (length all) ≡ Some n = sym (at p true e) ∙ h in
        let same : length all ≡ n = cc in
        ap (slice_get (all ++ o ∷ [])) (sym same) ∙ at-last all o ∙ ap (λ q. Some q) (sym (same_key-true outcome_order p o e))
    found n p h false e = more-left all (o ∷ []) n p (is.there n p (sym (at p false e) ∙ h))

-- the number of what is there
pub number-known : (all : List Told) (o : Told) (n : ℕ) → slice_get all n ≡ Some o → length all < 2 ^ 32 → HasNumber all all o n
number-known all o n at few = record { at = at; grown = inl refl; few = few }

-- and of what is added
pub number-new : (old new : List Told) (o : Told) (n : ℕ) → (n ≡ length old) × (n + 1 < 2 ^ 32) × (new ≡ old ++ o ∷ []) → HasNumber old new o n
number-new old new o n h =
    let more = length-append old (o ∷ []) in
    let long = ap (λ l. length l) h.2 in
    let here = h.0 in
    let room = h.1 in
    record {
      at = ap (λ l. slice_get l n) h.2 ∙ ap (slice_get (old ++ o ∷ [])) h.0 ∙ at-last old o;
      grown = inr (h.0, h.2);
      few = omega (arith, more, long, here, room);
    }
