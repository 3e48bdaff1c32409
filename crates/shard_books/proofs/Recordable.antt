-- The facts of a spec may stand in its books.
use Rattle.std.proofs.Common.{◌≡◌, ◌≢◌, refl, sym, ◌∙◌, subst, ℕ, zero, suc, ◌+◌, ◌<◌, ◌≤◌, Bool, true, false, cond, ◌==◌, List, [], ◌∷◌, length, set}
use Rattle.std.proofs.Common.{get_or, All, Option, Some, None, ◌⊎◌, ⊎_elim, arith, eqb-true, get_or-set_other, get_or-set_same, inl, inr}
use Rattle.std.proofs.lemmas.Bool.{eq-eqb}
use Rattle.std.proofs.lemmas.List.{get_or_past}
use Rattle.std.proofs.lemmas.List.Elements.{All-nil, All-cons}
use Rattle.bound_specs.specs.Spec.{Step, Spec, SpecFile, Queues, line, line_by, line_of, counts_of, steps_of, queues_from, queues_of, ranks, ranks_by, IsBound}
use Rattle.bound_specs.specs.Spec.{IsLine, IsReady}
use Rattle.perm_ranks.specs.Words.{Word, word_at}
use Rattle.machine_model.specs.World.{send_all, outcome_of}
use Rattle.machine_model.specs.Start.{Start, Started, SetupFailed, SessionSetupFailed, SessionSetupWaits, start}
use Rattle.machine_model.specs.Outcome.{IsOutcomeOf, outcome_of_line}
use Rattle.machine_model.proofs.Owned.{lines-own}
use Rattle.rank_facts.specs.Facts.{IsFactOf}
use Rattle.rank_facts.specs.declared.fact.Fact.{Fact}
use Rattle.rank_facts.specs.declared.fact.Fact.TheVariants.{Ran, Swap}
use Rattle.rank_facts.proofs.Leading.{swaps-hold}
use Rattle.fact_books.specs.Entries.{Told}
use Rattle.fact_books.specs.Books.{IsRecordable}
use Rattle.fact_books.specs.Building.{FactFits}

-- ---- a line's steps are steps of the spec

abbrev AllKnown : ℕ → Queues → Type 0
AllKnown n q = (a : ℕ) → All (λ k. k < n) (get_or q a [])

steps-known : (i k n : ℕ) (ss : List Step) → k + length ss ≡ n → All (λ m. m < n) (steps_of i k ss)
steps-known i k n [] e = All-nil (λ m. m < n)
steps-known i k n (s ∷ ss) e = at (s.session == i) (steps-known i (suc k) n ss (omega (arith, e)))
  where
    at : (b : Bool) → All (λ m. m < n) (steps_of i (suc k) ss) → All (λ m. m < n) (cond b (k ∷ steps_of i (suc k) ss) (steps_of i (suc k) ss))
    at true rest = All-cons (λ m. m < n) k _ (omega (arith, e)) rest
    at false rest = rest

queues-known : (i n : ℕ) (ss : List Step) → AllKnown (length ss) (queues_from i n ss)
queues-known i zero ss a = All-nil (λ m. m < length ss)
queues-known i (suc n) ss zero = steps-known i 0 (length ss) ss (omega arith)
queues-known i (suc n) ss (suc a) = queues-known (suc i) n ss a

line-known : (n : ℕ) (q : Queues) (word : Word) → AllKnown n q → All (λ m. m < n) (line q word)
line-known n q [] all = All-nil (λ m. m < n)
line-known n q (i ∷ word) all = at (line-known n q word all) (λ ks rest. line-known n (set q i ks) word rest) (get_or q i []) refl (all i)
  where
    at : All (λ m. m < n) (line q word) → ((ks : List ℕ) → AllKnown n (set q i ks) → All (λ m. m < n) (line (set q i ks) word))
        → (ks : List ℕ) → get_or q i [] ≡ ks → All (λ m. m < n) ks → All (λ m. m < n) (elim ks [ [] ↦ line q word | k ∷ ks ↦ k ∷ line (set q i ks) word ])
    at same rec [] is known = same
    at same rec (k ∷ ks) is known = All-cons (λ m. m < n) k _ (known 0 0 (omega arith)) (rec ks rest)
      where
        there : i < length q
        there =
            let cases : (i < length q) ⊎ (length q ≤ i) = grind arith in
            ⊎_elim (λ h. h) (λ h. absurd (let e : [] ≡ k ∷ ks = sym (get_or_past q i [] h) ∙ is in cc)) cases

        apart : (a : ℕ) (b : Bool) → (a == i) ≡ b → (a ≡ i) ⊎ (a ≢ i)
        apart a true h = inl (eqb-true a i h)
        apart a false h = inr (λ e. absurd (let f : true ≡ false = sym (eq-eqb a i e) ∙ h in cc))

        rest : AllKnown n (set q i ks)
        rest a = ⊎_elim
            (λ h. subst (λ j. All (λ m. m < n) (get_or (set q i ks) j [])) (sym h)
            (subst (λ l. All (λ m. m < n) l) (sym (get_or-set_same q i ks [] there)) (λ j d lt. known (suc j) d (omega (arith, lt)))))
            (λ h. subst (λ l. All (λ m. m < n) l) (sym (get_or-set_other q i a ks [] h)) (all a))
            (apart a (a == i) refl)

line-of-known : (spec : Spec) (r : ℕ) → r < ranks spec → All (IsLine (length spec.steps)) spec.lines → All (λ k. k < length spec.steps) (line_of spec r)
line-of-known spec r lt known = by spec.lines known lt
  where
    by : (ls : List (List ℕ)) → All (IsLine (length spec.steps)) ls → r < ranks_by ls (queues_of spec)
        → All (λ k. k < length spec.steps) (line_by ls (queues_of spec) r)
    by [] each lt = line-known (length spec.steps) (queues_of spec) (word_at (counts_of (queues_of spec)) r) (queues-known 0 spec.sessions spec.steps)
    by (l ∷ ls) each lt = (each r [] lt).known

-- ---- facts

outcome-of-spec : (spec : Spec) (ks : List ℕ) (o : Told) → IsBound spec → All (λ k. k < length spec.steps) ks → outcome_of_line spec ks ≡ Some o
    → IsOutcomeOf spec o
outcome-of-spec spec ks o bound known e = at (start spec) refl e
  where
    at : (s : Start) → start spec ≡ s
        → (let x : Option Told = elim s [ Started w ↦ Some (outcome_of spec.sessions (send_all spec.steps w ks)) | _ ↦ None ] in x) ≡ Some o
        → IsOutcomeOf spec o
    at (Started w) is f =
        let same : outcome_of spec.sessions (send_all spec.steps w ks) ≡ o = cc in
        subst (IsOutcomeOf spec) same (lines-own spec w ks bound is known)
    at (SetupFailed n) is f = cc
    at (SessionSetupFailed n) is f = cc
    at (SessionSetupWaits n) is f = cc

pub fact-recordable : (file : SpecFile) (reduce : Bool) (r : ℕ) (fact : Fact) → IsReady file → IsBound file.run → FactFits fact
    → IsFactOf reduce file.run r fact
    → IsRecordable file.run r fact
fact-recordable file reduce r (Ran o) ready bound fits h =
    let lt = h.0.0 in
    (lt, outcome-of-spec file.run (line_of file.run r) o bound (line-of-known file.run r lt ready.lines) h.0.1, fits)
fact-recordable file reduce r (Swap k) ready bound fits h =
    let s = swaps-hold file.run r k bound h.1.0 in
    (h.1.0.0, fits, (s.0, s.1))
