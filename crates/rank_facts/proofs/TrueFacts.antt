-- The fact of a rank, computed and as what is true.
use Rattle.std.proofs.Common.{◌≡◌, ◌≢◌, refl, sym, ap, ◌∙◌, subst, ℕ, zero, suc, ◌+◌, ◌<◌, ◌≤◌, Bool, true, false, cond, nat_lt, List, [], ◌∷◌, length, Option}
use Rattle.std.proofs.Common.{Some, None, is_some, ◌↔◌, ◌⊎◌, ⊎_elim, arith, ltb-true, lt-ltb}
use Rattle.perm_ranks.proofs.SwapLemmas.{exchanged-short}
use Rattle.bound_specs.specs.Spec.{Spec, line_of, ranks}
use Rattle.events.specs.declared.event.Event.{Event}
use Rattle.machine_model.specs.World.{World, send_all, outcome_of}
use Rattle.machine_model.specs.Start.{Start, Started, SetupFailed, SessionSetupFailed, SessionSetupWaits, start}
use Rattle.machine_model.proofs.Basics.{both_true, and_true}
use Rattle.rank_facts.specs.Swap.{IsSwap, falls_at, word_of}
use Rattle.rank_facts.specs.Facts.{IsTrueAt, IsFactOf, has_no_lines, is_swap, least_place, least_swap, fact_from, fact_of}
use Rattle.rank_facts.specs.declared.fact.Fact.{Fact}
use Rattle.rank_facts.specs.declared.fact.Fact.TheVariants.{Ran, Swap}
use Rattle.rank_facts.proofs.Leading.{outcome-started}

-- ---- the least place

record Least (test : ℕ → Bool) (k j : ℕ) : Type 0 where
  holds : test j ≡ true
  below : (m : ℕ) → k ≤ m → m < j → test m ≡ false

least-found : (test : ℕ → Bool) (k more j : ℕ) → least_place test k more ≡ Some j → Least test k j
least-found test k zero j e = cc
least-found test k (suc more) j e = at (test k) refl e (λ f. least-found test (suc k) more j f)
  where
    at : (b : Bool) → test k ≡ b → (let o : Option ℕ = elim b [ true ↦ Some k | false ↦ least_place test (suc k) more ] in o) ≡ Some j
        → (least_place test (suc k) more ≡ Some j → Least test (suc k) j) → Least test k j
    at true is f rec =
        let same : k ≡ j = cc in
        record { holds = ap test (sym same) ∙ is; below = λ m le lt. absurd (omega arith) }
    at false is f rec =
        let x = rec f in
        record {
          holds = x.holds;
          below = λ m le lt. (let cases : (k ≡ m) ⊎ (suc k ≤ m) = grind arith in
              ⊎_elim (λ h. ap test (sym h) ∙ is) (λ h. x.below m h lt) cases);
        }

least-none : (test : ℕ → Bool) (k more : ℕ) → least_place test k more ≡ None → (m : ℕ) → k ≤ m → m < k + more → test m ≡ false
least-none test k zero e m le lt = absurd (omega arith)
least-none test k (suc more) e m le lt = at (test k) refl e (λ f n. least-none test (suc k) more f m n (omega arith))
  where
    at : (b : Bool) → test k ≡ b → (let o : Option ℕ = elim b [ true ↦ Some k | false ↦ least_place test (suc k) more ] in o) ≡ None
        → (least_place test (suc k) more ≡ None → suc k ≤ m → test m ≡ false) → test m ≡ false
    at true is f rec = cc
    at false is f rec = let cases : (k ≡ m) ⊎ (suc k ≤ m) = grind arith in ⊎_elim (λ h. ap test (sym h) ∙ is) (λ h. rec f h) cases

-- ---- swaps by the test

no-lines : (ls : List (List ℕ)) → has_no_lines ls ≡ true → ls ≡ []
no-lines [] e = refl
no-lines (l ∷ ls) e = cc

swap-from : (spec : Spec) (w : World) (r k : ℕ) → is_swap spec w r k ≡ true → IsSwap spec w r k
swap-from spec w r k e =
    let a = both_true (has_no_lines spec.lines) _ e in
    let b = both_true (falls_at k (word_of spec r)) _ a.1 in
    record { words = no-lines spec.lines a.0; falls = b.0; quiet = b.1 }

swap-to : (spec : Spec) (w : World) (r k : ℕ) → IsSwap spec w r k → is_swap spec w r k ≡ true
swap-to spec w r k s = and_true (has_no_lines spec.lines) _ (ap has_no_lines s.words) (and_true (falls_at k (word_of spec r)) _ s.falls s.quiet)

-- letters fall only where two of them stand
swap-short : (spec : Spec) (w : World) (r k : ℕ) → IsSwap spec w r k → k < length (word_of spec r)
swap-short spec w r k s =
    let cases : (k < length (word_of spec r)) ⊎ (length (word_of spec r) ≤ suc k) = grind arith in
    ⊎_elim (λ h. h) (λ h. absurd (let f : false ≡ true = sym (ap is_some (exchanged-short k (word_of spec r) h)) ∙ s.falls in cc)) cases

module _ (spec : Spec) (w : World) (r : ℕ) (starts : start spec ≡ Started w) (lt : r < ranks spec) where
  abbrev ran : List (List Event)
  ran = outcome_of spec.sessions (send_all spec.steps w (line_of spec r))

  ran-true : IsTrueAt spec r (Ran ran)
  ran-true = (lt, outcome-started spec w (line_of spec r) starts)

  swap-true : (k : ℕ) → is_swap spec w r k ≡ true → IsTrueAt spec r (Swap k)
  swap-true k e = (lt, (w, starts, swap-from spec w r k e))

  true-swap : (k : ℕ) → IsTrueAt spec r (Swap k) → is_swap spec w r k ≡ true
  true-swap k is =
      let same : is.1.0 ≡ w = (let e : Started is.1.0 ≡ Started w = sym is.1.1 ∙ starts in cc) in
      swap-to spec w r k (subst (λ v. IsSwap spec v r k) same is.1.2)

  true-place : (k : ℕ) → IsTrueAt spec r (Swap k) → k < length (word_of spec r)
  true-place k is = swap-short spec is.1.0 r k is.1.2

  not-true : (k : ℕ) → is_swap spec w r k ≡ false → IsTrueAt spec r (Swap k) → ⊥
  not-true k off is = let f : false ≡ true = sym off ∙ true-swap k is in cc

  -- what the search for the least swap comes to is the fact when reducing
  found-fact : (o : Option ℕ) → least_swap spec w r ≡ o → IsFactOf true spec r (elim o [ None ↦ Ran ran | Some k ↦ Swap k ])
  found-fact None is = (
    ran-true,
    λ _ k t. not-true k (least-none (is_swap spec w r) 0 (length (word_of spec r)) is k (omega arith) (let h =
        true-place k t in omega (arith, h))) t,
  )
  found-fact (Some k) is =
      let x = least-found (is_swap spec w r) 0 (length (word_of spec r)) k is in
      (refl, (swap-true k x.holds, λ m less t. not-true m (x.below m (omega arith) less) t))

  from-fact : (reduce : Bool) → IsFactOf reduce spec r (fact_from reduce spec w r)
  from-fact false = (ran-true, λ e. cc)
  from-fact true = found-fact (least_swap spec w r) refl

-- ---- a rank has one fact

some-same : (a b : List (List Event)) → Some a ≡ Some b → a ≡ b
some-same a b e = cc

one-fact : (reduce : Bool) (spec : Spec) (r : ℕ) (f g : Fact) → IsFactOf reduce spec r f → IsFactOf reduce spec r g → f ≡ g
one-fact reduce spec r (Ran a) (Ran b) x y = ap Ran (some-same a b (sym x.0.1 ∙ y.0.1))
one-fact reduce spec r (Ran a) (Swap k) x y = absurd (x.1 y.0 k y.1.0)
one-fact reduce spec r (Swap k) (Ran a) x y = absurd (y.1 x.0 k x.1.0)
one-fact reduce spec r (Swap k) (Swap m) x y =
    let cases : (k ≡ m) ⊎ ((k < m) ⊎ (m < k)) = grind arith in
    ⊎_elim (λ e. ap Swap e) (λ c. ⊎_elim (λ lt. absurd (y.1.1 k lt x.1.0)) (λ lt. absurd (x.1.1 m lt y.1.0)) c) cases

in-ranks : (reduce : Bool) (spec : Spec) (r : ℕ) (f : Fact) → IsFactOf reduce spec r f → r < ranks spec
in-ranks reduce spec r (Ran a) x = x.0.0
in-ranks reduce spec r (Swap k) x = x.1.0.0

abbrev pub of_start : Bool → Spec → ℕ → Start → Option Fact
of_start reduce spec r s = elim s [ Started w ↦ cond (nat_lt r (ranks spec)) (Some (fact_from reduce spec w r)) None | _ ↦ None ]

-- a fact of a rank tells that the spec starts
starts-there : (reduce : Bool) (spec : Spec) (r : ℕ) (f : Fact) → IsFactOf reduce spec r f → (w : World) × (start spec ≡ Started w)
starts-there reduce spec r (Ran a) x = at (start spec) refl x.0.1
  where
    at : (s : Start) → start spec ≡ s
        → (let o : Option (List (List Event)) = elim s [ Started v ↦ Some (outcome_of spec.sessions (send_all spec.steps v (line_of spec r))) | _ ↦ None ] in
        o) ≡ Some a
        → (w : World) × (start spec ≡ Started w)
    at (Started w) is h = (w, is)
    at (SetupFailed n) is h = cc
    at (SessionSetupFailed n) is h = cc
    at (SessionSetupWaits n) is h = cc
starts-there reduce spec r (Swap k) x = (x.1.0.1.0, x.1.0.1.1)

computed : (reduce : Bool) (spec : Spec) (r : ℕ) (f : Fact) → fact_of reduce spec r ≡ Some f → IsFactOf reduce spec r f
computed reduce spec r f e = at (start spec) refl e
  where
    inside : (w : World) → start spec ≡ Started w → (b : Bool) → nat_lt r (ranks spec) ≡ b → cond b (Some (fact_from reduce spec w r)) None ≡ Some f
        → IsFactOf reduce spec r f
    inside w is true lt h = let same : fact_from reduce spec w r ≡ f = cc in
        subst (IsFactOf reduce spec r) same (from-fact spec w r is (ltb-true r (ranks spec) lt) reduce)
    inside w is false lt h = cc

    at : (s : Start) → start spec ≡ s → of_start reduce spec r s ≡ Some f → IsFactOf reduce spec r f
    at (Started w) is h = inside w is (nat_lt r (ranks spec)) refl h
    at (SetupFailed n) is h = cc
    at (SessionSetupFailed n) is h = cc
    at (SessionSetupWaits n) is h = cc

found : (reduce : Bool) (spec : Spec) (r : ℕ) (f : Fact) → IsFactOf reduce spec r f → fact_of reduce spec r ≡ Some f
found reduce spec r f x =
    let s = starts-there reduce spec r f x in
    let lt = in-ranks reduce spec r f x in
    ap (of_start reduce spec r) s.1 ∙ ap (λ b. cond b (Some (fact_from reduce spec s.0 r)) None) (lt-ltb r (ranks spec) lt)
    ∙ ap Some (one-fact reduce spec r (fact_from reduce spec s.0 r) f (from-fact spec s.0 r s.1 lt reduce) x)

pub facts-one : (reduce : Bool) (spec : Spec) (r : ℕ) (f : Fact) → (fact_of reduce spec r ≡ Some f) ↔ IsFactOf reduce spec r f
facts-one reduce spec r f = (computed reduce spec r f, found reduce spec r f)

pub lines-run : (reduce : Bool) (spec : Spec) (r : ℕ) (f : Fact) → spec.lines ≢ [] → IsFactOf reduce spec r f
    → (outcome : List (List Event)) × (f ≡ Ran outcome)
lines-run reduce spec r (Ran a) ne x = (a, refl)
lines-run reduce spec r (Swap k) ne x = absurd (ne x.1.0.1.2.words)
