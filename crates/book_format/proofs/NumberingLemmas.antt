-- Outcomes that runs name, in the order of their texts, and runs that name them by their places.
use Rattle.std.proofs.Common.{◌≡◌, refl, sym, ap, subst, ◌∙◌, ℕ, zero, suc, ◌+◌, ◌<◌, ◌≤◌, Bool, true, false, ◌&&◌, ◌||◌, List, [], ◌∷◌, ◌++◌, length}
use Rattle.std.proofs.Common.{get_or, set, map, take, replicate, inl, inr, ◌⊎◌, arith, Ordering, Less, Equal, Greater}
use Rattle.std.specs.Prelude.{Err}
use Rattle.std.proofs.lemmas.Bool.{false≢true, cases_eq}
use Rattle.std.proofs.lemmas.List.{take_more, length-append, length-set, get_or-set_same, get_or-set_other, get_or_default}
use Rattle.std.proofs.lemmas.List.Elements.{Contains-push, Contains-push_cases, Contains-append_left}
use Rattle.std.proofs.lemmas.List.Kept.{IsStrictlySortedBy-dedup, Contains-dedup, Contains-from_dedup}
use Rattle.std.proofs.lemmas.List.Sorted.{Contains-permutation, IsPermutation-sym, searchable_from_sorted}
use Rattle.std.proofs.lemmas.Map.Keys.{Less-from_sorted}
use Rattle.std.specs.List.{list_any, Contains, dedup, HoldsAt}
use Rattle.std.specs.List.Sorted.{IsSorted, IsPermutation, IsBinarySearchResult}
use Rattle.std.specs.Cmp.{eq_by_cmp_equiv}
use Rattle.std.specs.Ordering.{eq_by_cmp, is_lt, is_eq, ordering_reverse}
use Rattle.transcripts.specs.Compact.{outcome_cmp, outcome_total}
use Rattle.transcripts.proofs.OutcomeOrder.{outcome_same}
use Rattle.rank_facts.specs.declared.fact.Fact.TheVariants.{Ran as RanFact}
use Rattle.fact_books.specs.declared.run.Run.{Run}
use Rattle.fact_books.specs.declared.run.Tag.{Tag}
use Rattle.fact_books.specs.declared.run.Tag.TheVariants.{Ran, Swap}
use Rattle.fact_books.specs.Entries.{Told, Entry, fact_cmp}
use Rattle.fact_books.specs.Runs.{Table, fact_in, within, has, IsNumbered, AllSound, renamed, renamed_tag}
use Rattle.fact_books.specs.Books.{facts_in}
use Rattle.fact_books.specs.Sweep.{IsIn}
use Rattle.fact_books.proofs.SetLemmas.{same_facts, contains-runs}
use Rattle.fact_books.proofs.VerdictLemmas.{in-push}
use Rattle.fact_books.proofs.SweepLemmas.{take-past}
use Rattle.book_format.specs.Forms.{Rises, ComesBefore, IsLater, IsNamed, IsForm}
use Rattle.book_format.specs.Canonical.{SayTheSame, StaySound}
use Rattle.book_format.specs.Numbering.{IsFlagged, AreFlags, AreFlagged, IsNumber, AreNumbers}
use Rattle.book_format.proofs.CanonicalLemmas.{rises-at, at-rises}
use Rattle.fact_books.proofs.VerdictLemmas.{any-in, in-any}
use Rattle.book_format.proofs.OneForm.{in-at, sound-in, has-true, true-has, tag-one}

-- ---- flags

-- the outcomes that the first i runs name have flags, and no others than the runs name
pub record IsFlagging (outcomes : ℕ) (runs : List Run) (i : ℕ) (flags : List Bool) : Type 0 where
  pub count_is : length flags ≡ outcomes
  pub each : (n : ℕ) → IsNamed n (take i runs) → IsFlagged flags n
  pub only : (n : ℕ) → IsFlagged flags n → IsNamed n runs

none-flagged : (k n : ℕ) → get_or (replicate k false) n false ≡ false
none-flagged zero n = refl
none-flagged (suc k) zero = refl
none-flagged (suc k) (suc n) = none-flagged k n

pub flagging-start : (outcomes : ℕ) (runs : List Run) (flags : List Bool) → length flags ≡ outcomes → flags ≡ replicate outcomes false
    → IsFlagging outcomes runs 0 flags
flagging-start outcomes runs flags count e = record {
  count_is = count;
  each = λ n m. absurd m.1;
  only = λ n h. absurd (false≢true (sym (ap (λ fs. get_or fs n false) e ∙ none-flagged outcomes n) ∙ h));
}

named-more : (runs : List Run) (i n : ℕ) (run d : Run) → i < length runs → run ≡ get_or runs i d → IsNamed n (take (i + 1) runs)
    → IsNamed n (take i runs) ⊎ (run.tag ≡ Ran n)
named-more runs i n run d lt is m = on (in-push (take i runs) (get_or runs i d) m.0 (subst (IsIn m.0) (take_more runs i d lt) m.1))
  where
    on : IsIn m.0 (take i runs) ⊎ (m.0 ≡ get_or runs i d) → IsNamed n (take i runs) ⊎ (run.tag ≡ Ran n)
    on (inl h) = inl (m.0, h, m.2)
    on (inr e) = inr (ap (λ (r : Run). r.tag) (is ∙ sym e) ∙ m.2)

pub flagging-ran : (outcomes : ℕ) (runs : List Run) (i n : ℕ) (flags : List Bool) (run d : Run) → i < length runs → run ≡ get_or runs i d → run.tag ≡ Ran n
    → n < outcomes → IsFlagging outcomes runs i flags → IsFlagging outcomes runs (i + 1) (set flags n true)
flagging-ran outcomes runs i n flags run d lt is tag below k = record {
  count_is = length-set flags n true ∙ k.count_is;
  each = λ m h. each m (cases_eq m n) (named-more runs i m run d lt is h);
  only = λ m h. only m (cases_eq m n) h;
}
  where
    inside : n < length flags
    inside = let c = k.count_is in omega (arith, c, below)

    here : (m : ℕ) → m ≡ n → IsFlagged (set flags n true) m
    here m e = ap (λ j. get_or (set flags n true) j false) e ∙ get_or-set_same flags n true false inside

    each : (m : ℕ) → (m ≡ n) ⊎ (m ≡ n → ⊥) → IsNamed m (take i runs) ⊎ (run.tag ≡ Ran m) → IsFlagged (set flags n true) m
    each m (inl e) h = here m e
    each m (inr ne) (inl h) = get_or-set_other flags n m true false ne ∙ k.each m h
    each m (inr ne) (inr t) = absurd (ne (ran-number m (sym t ∙ tag)))
      where
        ran-number : (j : ℕ) → Ran j ≡ Ran n → j ≡ n
        ran-number j e = cc

    only : (m : ℕ) → (m ≡ n) ⊎ (m ≡ n → ⊥) → IsFlagged (set flags n true) m → IsNamed m runs
    only m (inl e) h = (get_or runs i d, in-at d runs i lt, sym (ap (λ (r : Run). r.tag) is) ∙ tag ∙ ap Ran (sym e))
    only m (inr ne) h = k.only m (sym (get_or-set_other flags n m true false ne) ∙ h)

pub flagging-swap : (outcomes : ℕ) (runs : List Run) (i l : ℕ) (flags : List Bool) (run d : Run) → i < length runs → run ≡ get_or runs i d
    → run.tag ≡ Swap l → IsFlagging outcomes runs i flags → IsFlagging outcomes runs (i + 1) flags
flagging-swap outcomes runs i l flags run d lt is tag k = record {
  count_is = k.count_is;
  each = λ m h. each m (named-more runs i m run d lt is h);
  only = k.only;
}
  where
    each : (m : ℕ) → IsNamed m (take i runs) ⊎ (run.tag ≡ Ran m) → IsFlagged flags m
    each m (inl h) = k.each m h
    each m (inr t) = absurd (two (sym t ∙ tag))
      where
        two : Ran m ≡ Swap l → ⊥
        two e = cc

pub flagging-end : (outcomes : ℕ) (runs : List Run) (i : ℕ) (flags : List Bool) → length runs ≤ i → IsFlagging outcomes runs i flags → AreFlags runs flags
flagging-end outcomes runs i flags past k = record {
  each = λ n m. k.each n (subst (IsNamed n) (sym (take-past runs i past)) m);
  only = k.only;
}

-- ---- the outcomes with flags

-- those of the first i outcomes
pub record AreFlaggedTo (outcomes : Table) (flags : List Bool) (i : ℕ) (out : Table) : Type 0 where
  pub each : (n : ℕ) → n < i → n < length outcomes → IsFlagged flags n → Contains out (get_or outcomes n [])
  pub only : (o : Told) → Contains out o → (n : ℕ) × (n < length outcomes) × IsFlagged flags n × (get_or outcomes n [] ≡ o)

pub flagged-start : (outcomes : Table) (flags : List Bool) → AreFlaggedTo outcomes flags 0 []
flagged-start outcomes flags = record {
  each = λ n l. absurd (omega (arith, l));
  only = λ o c. absurd (let lt = c.1 in omega (arith, lt));
}

pub flagged-push : (outcomes : Table) (flags : List Bool) (i : ℕ) (out : Table) (o : Told) → i < length outcomes → IsFlagged flags i
    → o ≡ get_or outcomes i [] → AreFlaggedTo outcomes flags i out → AreFlaggedTo outcomes flags (i + 1) (out ++ o ∷ [])
flagged-push outcomes flags i out o lt flag is k = record {
  each = λ n l m f. each n (cases_eq n i) l m f;
  only = λ p c. only p (Contains-push_cases out o p c);
}
  where
    each : (n : ℕ) → (n ≡ i) ⊎ (n ≡ i → ⊥) → n < i + 1 → n < length outcomes → IsFlagged flags n → Contains (out ++ o ∷ []) (get_or outcomes n [])
    each n (inl e) l m f = subst (Contains (out ++ o ∷ [])) (is ∙ ap (λ j. get_or outcomes j []) (sym e)) (Contains-push out o)
    each n (inr ne) l m f = Contains-append_left out (o ∷ []) _ (k.each n (omega (arith, l, ne)) m f)

    only : (p : Told) → Contains out p ⊎ (o ≡ p) → (n : ℕ) × (n < length outcomes) × IsFlagged flags n × (get_or outcomes n [] ≡ p)
    only p (inl c) = k.only p c
    only p (inr e) = (i, lt, flag, sym is ∙ e)

pub flagged-skip : (outcomes : Table) (flags : List Bool) (i : ℕ) (out : Table) → get_or flags i false ≡ false → AreFlaggedTo outcomes flags i out
    → AreFlaggedTo outcomes flags (i + 1) out
flagged-skip outcomes flags i out none k = record {
  each = λ n l m f. each n (cases_eq n i) l m f;
  only = k.only;
}
  where
    each : (n : ℕ) → (n ≡ i) ⊎ (n ≡ i → ⊥) → n < i + 1 → n < length outcomes → IsFlagged flags n → Contains out (get_or outcomes n [])
    each n (inl e) l m f = absurd (false≢true (sym (ap (λ j. get_or flags j false) e ∙ none) ∙ f))
    each n (inr ne) l m f = k.each n (omega (arith, l, ne)) m f

pub flagged-end : (outcomes : Table) (flags : List Bool) (i : ℕ) (out : Table) → length outcomes ≤ i → AreFlaggedTo outcomes flags i out
    → AreFlagged outcomes flags out
flagged-end outcomes flags i out past k = record {
  each = λ n m f. k.each n (omega (arith, past, m)) m f;
  only = k.only;
}

tied : (o : Ordering) → is_eq o ≡ true → o ≡ Equal
tied Less e = cc
tied Equal e = refl
tied Greater e = cc

one-of : (x y : Told) → eq_by_cmp outcome_cmp x y ≡ true → x ≡ y
one-of x y e = outcome_same x y (tied (outcome_cmp x y) e)

-- sorted, and each once
pub flagged-once : (outcomes : Table) (flags : List Bool) (out sorted : Table) → IsPermutation out sorted → AreFlagged outcomes flags out
    → AreFlagged outcomes flags (dedup (eq_by_cmp outcome_cmp) sorted)
flagged-once outcomes flags out sorted same k = record {
  each = λ n m f. Contains-dedup (eq_by_cmp_equiv outcome_total) one-of sorted _ (Contains-permutation out sorted _ same (k.each n m f));
  only = λ o c. k.only o (Contains-permutation sorted out o (IsPermutation-sym out sorted same) (Contains-from_dedup (eq_by_cmp outcome_cmp) sorted o c));
}

pub rises-once : (sorted : Table) → IsSorted outcome_cmp sorted → Rises ComesBefore (dedup (eq_by_cmp outcome_cmp) sorted)
rises-once sorted s =
    at-rises ComesBefore [] _ (λ i j l m. Less-from_sorted outcome_cmp (dedup (eq_by_cmp outcome_cmp) sorted) i j []
    (IsStrictlySortedBy-dedup outcome_total (λ x y. refl) sorted s) l m)

-- ---- places

rising-sorted : (xs : Table) → Rises ComesBefore xs → IsSorted outcome_cmp xs
rising-sorted xs rises k d low lt =
    let less = rises-at ComesBefore d xs k (k + 1) rises (omega arith) lt in
    ap is_lt (outcome_total.antisymm (get_or xs (k + 1) d) (get_or xs k d) ∙ ap ordering_reverse less)

pub found-number : (named : Table) (o : Told) (n : ℕ) → n < length named → HoldsAt (λ y. outcome_cmp y o ≡ Equal) named n → IsNumber named o n
found-number named o n lt at c = (lt, outcome_same _ _ (at []))

pub no-number : (named : Table) (o : Told) (i n : ℕ) → Rises ComesBefore named → IsBinarySearchResult (λ y. outcome_cmp y o) named (Err i) → IsNumber named o n
no-number named o i n rises h c = absurd (on (grind arith))
  where
    there : outcome_cmp (get_or named c.0 o) o ≡ Equal
    there = ap (λ x. outcome_cmp x o) c.2 ∙ itself (outcome_cmp o o) (outcome_total.antisymm o o)
      where
        itself : (r : Ordering) → r ≡ ordering_reverse r → r ≡ Equal
        itself Less e = cc
        itself Equal e = refl
        itself Greater e = cc

    on : (c.0 < i) ⊎ (i ≤ c.0) → ⊥
    on (inl l) =
        let p = h (searchable_from_sorted outcome_total (λ (x : Told). x) named o (rising-sorted named rises)) in
        let less = p.0 c.0 o (omega arith) l in
        less-equal (sym less ∙ there)
      where
        less-equal : Less ≡ Equal → ⊥
        less-equal e = cc
    on (inr l) =
        let p = h (searchable_from_sorted outcome_total (λ (x : Told). x) named o (rising-sorted named rises)) in
        let greater = p.1 c.0 o l c.1 in
        greater-equal (sym greater ∙ there)
      where
        greater-equal : Greater ≡ Equal → ⊥
        greater-equal e = cc

-- the places of the first outcomes
pub record AreNumbersTo (outcomes named : Table) (i : ℕ) (numbers : List ℕ) : Type 0 where
  pub count_is : length numbers ≡ i
  pub each : (n : ℕ) → n < i → IsNumber named (get_or outcomes n []) (get_or numbers n 0)

pub numbers-start : (outcomes named : Table) → AreNumbersTo outcomes named 0 []
numbers-start outcomes named = record { count_is = refl; each = λ n l. absurd (omega (arith, l)) }

pub numbers-push : (outcomes named : Table) (i : ℕ) (numbers : List ℕ) (o d : Told) (m : ℕ) → i < length outcomes → o ≡ get_or outcomes i d
    → IsNumber named o m → AreNumbersTo outcomes named i numbers → AreNumbersTo outcomes named (i + 1) (numbers ++ m ∷ [])
numbers-push outcomes named i numbers o d m lt is here k = record {
  count_is = let c = k.count_is in let l = length-append numbers (m ∷ []) in omega (arith, c, l);
  each = λ n l. each n (cases_eq n i) l;
}
  where
    front : (xs : List ℕ) (n : ℕ) → n < length xs → get_or (xs ++ m ∷ []) n 0 ≡ get_or xs n 0
    front [] n l = absurd (omega (arith, l))
    front (x ∷ xs) zero l = refl
    front (x ∷ xs) (suc n) l = front xs n (omega (arith, l))

    last : (xs : List ℕ) → get_or (xs ++ m ∷ []) (length xs) 0 ≡ m
    last [] = refl
    last (x ∷ xs) = last xs

    each : (n : ℕ) → (n ≡ i) ⊎ (n ≡ i → ⊥) → n < i + 1 → IsNumber named (get_or outcomes n []) (get_or (numbers ++ m ∷ []) n 0)
    each n (inl e) l =
        subst (λ p. IsNumber named p (get_or (numbers ++ m ∷ []) n 0)) (is ∙ get_or_default outcomes i d [] lt ∙ ap (λ j. get_or outcomes j []) (sym e))
        (subst (IsNumber named o) (sym (ap (λ j. get_or (numbers ++ m ∷ []) j 0) (e ∙ sym k.count_is) ∙ last numbers)) here)
    each n (inr ne) l =
        let below : n < length numbers = let c = k.count_is in omega (arith, c, l, ne) in
        subst (IsNumber named (get_or outcomes n [])) (sym (front numbers n below)) (k.each n (omega (arith, l, ne)))

pub numbers-end : (outcomes named : Table) (i : ℕ) (numbers : List ℕ) → length outcomes ≤ i → i ≤ length outcomes → AreNumbersTo outcomes named i numbers
    → AreNumbers outcomes named numbers
numbers-end outcomes named i numbers past low k = record {
  count_is = let c = k.count_is in omega (arith, c, past, low);
  each = λ n l. k.each n (omega (arith, past, l));
}

-- ---- runs by the new numbers

-- the number that stands for an outcome that runs name leads to that outcome
abbrev MovesTo : Table → Table → List ℕ → List Run → Type 0
MovesTo outcomes named numbers runs =
    (n : ℕ) → IsNamed n runs → (get_or numbers n 0 < length named) × (get_or named (get_or numbers n 0) [] ≡ get_or outcomes n [])

moves-tail : (outcomes named : Table) (numbers : List ℕ) (run : Run) (runs : List Run) → MovesTo outcomes named numbers (run ∷ runs)
    → MovesTo outcomes named numbers runs
moves-tail outcomes named numbers run runs h n m = h n (m.0, inr m.1, m.2)

sound-moves : (outcomes named : Table) (numbers : List ℕ) (runs : List Run) → MovesTo outcomes named numbers runs → AllSound (length outcomes) runs
    → AllSound (length named) (map (renamed numbers) runs)
sound-moves outcomes named numbers [] h a = tt
sound-moves outcomes named numbers (run ∷ runs) h a =
    ((tag run.tag refl a.0.0, a.0.1), sound-moves outcomes named numbers runs (moves-tail outcomes named numbers run runs h) a.1)
  where
    tag : (g : Tag) → run.tag ≡ g → IsNumbered (length outcomes) g → IsNumbered (length named) (renamed_tag numbers g)
    tag (Ran k) e lt = (h k (run, inl refl, e)).0
    tag (Swap k) e lt = tt

any-moves : (outcomes named : Table) (numbers : List ℕ) (runs : List Run) (e : Entry) → MovesTo outcomes named numbers runs
    → list_any (has named e) (map (renamed numbers) runs) ≡ list_any (has outcomes e) runs
any-moves outcomes named numbers [] e h = refl
any-moves outcomes named numbers (run ∷ runs) e h =
    λ i. (within run.first run.end e.0 && eq_by_cmp fact_cmp e.1 (fact run.tag refl i))
    || any-moves outcomes named numbers runs e (moves-tail outcomes named numbers run runs h) i
  where
    fact : (g : Tag) → run.tag ≡ g → fact_in named (renamed_tag numbers g) ≡ fact_in outcomes g
    fact (Ran k) is = ap RanFact (h k (run, inl refl, is)).1
    fact (Swap k) is = refl

module _
    (outcomes named : Table)
    (flags : List Bool)
    (numbers : List ℕ)
    (runs : List Run)
    (sound : AllSound (length outcomes) runs)
    (marks : AreFlags runs flags)
    (these : AreFlagged outcomes flags named)
    (places : AreNumbers outcomes named numbers) where
  moves : MovesTo outcomes named numbers runs
  moves n m = places.each n inside (these.each n inside (marks.each n m))
    where
      inside : n < length outcomes
      inside = subst (IsNumbered (length outcomes)) m.2 (sound-in (length outcomes) runs m.0 sound m.1).0

  pub sound-numbers : AllSound (length numbers) runs
  sound-numbers = subst (λ n. AllSound n runs) (sym places.count_is) sound

  pub sound-renumbered : AllSound (length named) (map (renamed numbers) runs)
  sound-renumbered = sound-moves outcomes named numbers runs moves sound

  -- the longest runs over the outcomes that are named are the one form
  pub is-form : (out : List Run) → Rises ComesBefore named → Rises IsLater out → SayTheSame out (map (renamed numbers) runs)
      → StaySound (map (renamed numbers) runs) out → IsForm (facts_in outcomes runs) named out
  is-form out rises later same stay = record {
    table_rises = rises;
    runs_rise = later;
    sound = bound;
    named = is-named;
    facts_are = same_facts _ _ (λ e. contains-runs named out e ∙ says e ∙ sym (contains-runs outcomes runs e));
  }
    where
      bound : AllSound (length named) out
      bound = stay (length named) sound-renumbered

      says : (e : Entry) → list_any (has named e) out ≡ list_any (has outcomes e) runs
      says e = same named e ∙ any-moves outcomes named numbers runs e moves

      is-named : (n : ℕ) → n < length named → IsNamed n out
      is-named n lt =
          let o : Told = get_or named n [] in
          let from = these.only o (n, lt, get_or_default named n o [] lt) in
          let by = marks.only from.0 from.2 in
          let run : Run = by.0 in
          let first = (sound-in (length outcomes) runs run sound by.1).1 in
          let told : RanFact o ≡ fact_in outcomes run.tag = ap RanFact (sym from.3) ∙ ap (fact_in outcomes) (sym by.2) in
          let there = in-any (has outcomes (run.first, RanFact o)) runs run by.1 (true-has outcomes run.first (RanFact o) run (omega arith) first told) in
          let w = any-in (has named (run.first, RanFact o)) out (says (run.first, RanFact o) ∙ there) in
          let q = has-true named run.first (RanFact o) w.0 w.2 in
          (w.0, w.1, sym (tag-one named rises (Ran n) w.0.tag lt (sound-in (length named) out w.0 bound w.1).0 q.2))
