-- What each step of reading keeps, and what it tells where something is refused.
use Rattle.std.proofs.Common.{◌≡◌, refl, sym, ap, subst, ◌∙◌, ℕ, zero, suc, ◌+◌, ◌-◌, ◌<◌, ◌≤◌, true, List, [], ◌∷◌, ◌++◌, length, get_or, drop, take}
use Rattle.std.proofs.Common.{slice_get, Some, Ok, Err, ◌⊎◌, inl, inr, arith}
use Rattle.std.specs.Prelude.{option_map}
use Rattle.std.proofs.lemmas.List.{take_more, map-append, length-map}
use Rattle.std.proofs.lemmas.Option.{slice_get-map}
use Rattle.std.specs.FinSet.{from_list}
use Rattle.std.specs.Ordering.{is_lt}
use Rattle.std.specs.declared.cmp.Ordering.{Ordering}
use Rattle.std.specs.declared.cmp.Ordering.TheVariants.{Less, Equal, Greater}
use Rattle.serde_json.specs.Data.{Data}
use Rattle.serde_json.specs.View.{view, items_view}
use Rattle.serde_json.specs.declared.value.Value.{Value as Json}
use Rattle.bound_specs.specs.Spec.{Spec}
use Rattle.machine_model.specs.Outcome.{IsOutcomeOf}
use Rattle.transcripts.specs.Json.{outcome_data}
use Rattle.fact_books.specs.declared.run.Run.{Run}
use Rattle.fact_books.specs.Entries.{Entry, Told, entry_cmp}
use Rattle.fact_books.specs.Runs.{Table, repeated}
use Rattle.fact_books.specs.Building.{Building, added}
use Rattle.book_format.specs.declared.error.BookError.{BookError}
use Rattle.book_format.specs.declared.error.BookError.TheVariants.{NoMemory}
use Rattle.book_format.specs.declared.reading.runs.Ends.{Ends}
use Rattle.book_format.specs.declared.reading.facts.RankFact.{RankFact}
use Rattle.book_format.specs.Reading.{Read, last, StandsAfter, IsOutcomeValue, IsOutcome, IsNextOutcome, AreOutcomes}
use Rattle.book_format.specs.ReadingRuns.{IsNextRun, AreRuns, AreRunsOf, AreEnds, IsApart, IsReadingRuns}
use Rattle.book_format.specs.ReadingFacts.{ComesUnder, IsNextEntry, AreEntries, entry_of, entries_of, AllUnder, AreUnder, RanksBelow}
use Rattle.book_format.proofs.ItemLemmas.{items-next, items-end}
use Rattle.compact_outcomes.proofs.OutcomeValues.{told-one}
use Rattle.book_format.proofs.RunLaws.{next-lawful}
use Rattle.book_format.proofs.FactLaws.{one-more}

-- ---- outcomes

-- the value of an outcome that the spec has not is that of none
pub not-own : (spec : Spec) (d : Data) (o : Told) → outcome_data o ≡ d → (IsOutcomeOf spec o → ⊥) → (p : Told) → IsOutcomeValue spec d p → ⊥
not-own spec d o value not p is = not (subst (IsOutcomeOf spec) (told-one p o (is.value ∙ sym value)) is.own)

pub outcome-value : (spec : Spec) (d : Data) (o : Told) → IsOutcome spec d (Ok o) → IsOutcomeValue spec d o
outcome-value spec d o (inl (p, value, is)) = let same : o ≡ p = cc in subst (IsOutcomeValue spec d) (sym same) value
outcome-value spec d o (inr (none, is)) = absurd (cc)

module _ (spec : Spec) (vs : List Json) (done before : Table) (i : ℕ) (v : Json) (lt : i < length vs) (at : v ≡ get_or vs i v) (same : before ≡ done)
    (reads : (r : Read Table) → AreOutcomes spec done (items_view (drop i vs)) r → AreOutcomes spec [] (items_view vs) r) where
  pub outcome-refused : (e : BookError) → IsNextOutcome spec before (view v) (Err e) ⊎ (e ≡ NoMemory)
      → AreOutcomes spec [] (items_view vs) (Err e) ⊎ (e ≡ NoMemory)
  outcome-refused e (inl next) =
      inl (reads (Err e) (subst (λ ds. AreOutcomes spec done ds (Err e)) (sym (items-next vs i v lt at))
      (inr (e, subst (λ b. IsNextOutcome spec b (view v) (Err e)) same next, refl))))
  outcome-refused e (inr memory) = inr memory

  pub outcome-more : (o : Told) (new : Table) → new ≡ done ++ o ∷ [] → IsNextOutcome spec before (view v) (Ok o)
      → (r : Read Table) → AreOutcomes spec new (items_view (drop (i + 1) vs)) r → AreOutcomes spec [] (items_view vs) r
  outcome-more o new is next r rest =
      reads r (subst (λ ds. AreOutcomes spec done ds r) (sym (items-next vs i v lt at))
      (inl (o, subst (λ b. IsNextOutcome spec b (view v) (Ok o)) same next, subst (λ t. AreOutcomes spec t (items_view (drop (i + 1) vs)) r) is rest)))

-- ---- runs

module _ (spec : Spec) (n : ℕ) (vs : List Json) (done before : List Run) (facts : ℕ) (ends : Ends) (i : ℕ) (v : Json) (lt : i < length vs)
    (at : v ≡ get_or vs i v) (same : before ≡ done) (h : IsReadingRuns spec n (items_view vs) (items_view (drop i vs)) done facts ends) where
  pub run-refused : (e : BookError) → IsNextRun spec n before facts (view v) (Err e) ⊎ (e ≡ NoMemory)
      → AreRunsOf spec n (items_view vs) (Err e) ⊎ (e ≡ NoMemory)
  run-refused e (inl next) =
      inl (inr (
        e,
        h.reads (Err e) (subst (λ ds. AreRuns spec n done facts ds (Err e)) (sym (items-next vs i v lt at))
            (inr (e, subst (λ b. IsNextRun spec n b facts (view v) (Err e)) same next, refl))),
        refl,
      ))
  run-refused e (inr memory) = inr memory

  pub run-more : (run : Run) (new : List Run) (noted : Ends) → new ≡ done ++ run ∷ [] → IsNextRun spec n before facts (view v) (Ok run)
      → (AreEnds n ends done → IsApart done run → AreEnds n noted (done ++ run ∷ []))
      → IsReadingRuns spec n (items_view vs) (items_view (drop (i + 1) vs)) new (facts + (run.end - run.first)) noted
  run-more run new noted is next note =
      let here = subst (λ b. IsNextRun spec n b facts (view v) (Ok run)) same next in
      let lawful = next-lawful spec n done facts (view v) run here in
      record {
        few = lawful.few;
        ends_are = subst (AreEnds n noted) (sym is) (note h.ends_are lawful.past.apart);
        reads = λ r rest. h.reads r (subst (λ ds. AreRuns spec n done facts ds r) (sym (items-next vs i v lt at))
            (inl (run, here, subst (λ rs. AreRuns spec n rs (facts + (run.end - run.first)) (items_view (drop (i + 1) vs)) r) is rest)));
      }

-- all values are read
pub runs-read : (spec : Spec) (n : ℕ) (vs : List Json) (done : List Run) (facts : ℕ) (ends : Ends) (i : ℕ) → length vs ≤ i
    → IsReadingRuns spec n (items_view vs) (items_view (drop i vs)) done facts ends → AreRuns spec n [] 0 (items_view vs) (Ok done)
runs-read spec n vs done facts ends i le h = h.reads (Ok done) (subst (λ ds. AreRuns spec n done facts ds (Ok done)) (sym (items-end vs i le)) refl)

-- ---- facts one by one

pub last-entries : (facts : List RankFact) → last (entries_of facts) ≡ option_map entry_of (last facts)
last-entries facts = ap (λ n. slice_get (entries_of facts) (n - 1)) (length-map facts entry_of) ∙ slice_get-map entry_of facts (length facts - 1)

pub entries-push : (facts : List RankFact) (fact : RankFact) → entries_of (facts ++ fact ∷ []) ≡ entries_of facts ++ entry_of fact ∷ []
entries-push facts fact = map-append entry_of facts (fact ∷ [])

module _ (spec : Spec) (vs : List Json) (done before : List RankFact) (i : ℕ) (v : Json) (lt : i < length vs) (at : v ≡ get_or vs i v) (same : before ≡ done)
    (reads : (r : Read (List Entry)) → AreEntries spec (entries_of done) (items_view (drop i vs)) r → AreEntries spec [] (items_view vs) r) where
  pub fact-refused : (e : BookError) → IsNextEntry spec (entries_of before) (view v) (Err e) ⊎ (e ≡ NoMemory)
      → AreEntries spec [] (items_view vs) (Err e) ⊎ (e ≡ NoMemory)
  fact-refused e (inl next) =
      inl (reads (Err e) (subst (λ ds. AreEntries spec (entries_of done) ds (Err e)) (sym (items-next vs i v lt at))
      (inr (e, subst (λ b. IsNextEntry spec (entries_of b) (view v) (Err e)) same next, refl))))
  fact-refused e (inr memory) = inr memory

  pub fact-more : (fact : RankFact) (new : List RankFact) → new ≡ done ++ fact ∷ [] → IsNextEntry spec (entries_of before) (view v) (Ok (entry_of fact))
      → (r : Read (List Entry)) → AreEntries spec (entries_of new) (items_view (drop (i + 1) vs)) r → AreEntries spec [] (items_view vs) r
  fact-more fact new is next r rest =
      reads r (subst (λ ds. AreEntries spec (entries_of done) ds r) (sym (items-next vs i v lt at))
      (inl (
        entry_of fact,
        subst (λ b. IsNextEntry spec (entries_of b) (view v) (Ok (entry_of fact))) same next,
        subst (λ es. AreEntries spec es (items_view (drop (i + 1) vs)) r) (ap entries_of is ∙ entries-push done fact) rest,
      )))

pub below-at : (n : ℕ) (facts : List RankFact) (i : ℕ) (d : RankFact) → i < length facts → RanksBelow n (entries_of facts) → (get_or facts i d).rank < n
below-at n [] i d lt below = absurd (omega (arith, lt))
below-at n (x ∷ xs) zero d lt below = below.0
below-at n (x ∷ xs) (suc i) d lt below = below-at n xs i d (omega (arith, lt)) below.1

under-at : (low : ℕ) (facts : List RankFact) (i : ℕ) (d : RankFact) → i < length facts → AllUnder low (entries_of facts) → low ≤ (get_or facts i d).rank
under-at low [] i d lt under = absurd (omega (arith, lt))
under-at low (x ∷ xs) zero d lt under = under.0
under-at low (x ∷ xs) (suc i) d lt under = under-at low xs i d (omega (arith, lt)) under.1

under-next : (facts : List RankFact) (i : ℕ) (c d : RankFact) → AreUnder (entries_of facts) → suc i < length facts
    → (get_or facts i c).rank ≤ (get_or facts (suc i) d).rank
under-next [] i c d under lt = absurd (omega (arith, lt))
under-next (x ∷ xs) zero c d under lt = under-at x.rank xs zero d (omega (arith, lt)) under.0
under-next (x ∷ xs) (suc i) c d under lt = under-next xs i c d under.1 (omega (arith, lt))

-- one more fact is in the builder
pub built-more : (facts : List RankFact) (i : ℕ) (fact : RankFact) (old new : Building) → i < length facts → fact ≡ get_or facts i fact
    → AreUnder (entries_of facts) → old.facts ≡ from_list (entries_of (take i facts)) → new ≡ added old fact.rank (fact.rank + 1) fact.fact
    → (new.facts ≡ from_list (entries_of (take (i + 1) facts))) × ((d : RankFact) → i + 1 < length facts → new.next ≤ (get_or facts (i + 1) d).rank)
built-more facts i fact old new lt at under so_far is = (
  ap (λ (b : Building). b.facts) is
      ∙ ap (λ s. Rattle.std.specs.FinSet.union s (from_list (repeated fact.rank (fact.rank + 1 - fact.rank) fact.fact))) so_far
      ∙ one-more (entries_of (take i facts)) fact.rank fact.fact
      ∙ ap from_list (sym (ap entries_of (take_more facts i fact lt ∙ ap (λ f. take i facts ++ f ∷ []) (sym at)) ∙ entries-push (take i facts) fact)),
  λ d more.
      let next : new.next ≡ fact.rank = ap (λ (b : Building). b.next) is in
      let le : (get_or facts i fact).rank ≤ (get_or facts (suc i) d).rank = under-next facts i fact d under (omega (arith, more)) in
      let here : fact.rank ≡ (get_or facts i fact).rank = ap (λ (f : RankFact). f.rank) at in
      let there : (get_or facts (suc i) d).rank ≡ (get_or facts (i + 1) d).rank = ap (λ n. (get_or facts n d).rank) (omega arith) in
      omega (arith, next, le, here, there),
)

-- a place that is there has the same with any default
pub same-at : {X : Type 0} (xs : List X) (i : ℕ) (c d : X) → i < length xs → get_or xs i c ≡ get_or xs i d
same-at [] i c d lt = absurd (omega (arith, lt))
same-at (x ∷ xs) zero c d lt = refl
same-at (x ∷ xs) (suc i) c d lt = same-at xs i c d (omega (arith, lt))

-- ---- what stands after the last fact

pub last-under : (es : List Entry) (l e : Entry) → last es ≡ Some l → (o : Ordering) → entry_cmp l e ≡ o → is_lt o ≡ true → StandsAfter ComesUnder es e
last-under es l e is Less at h m there = let same : l ≡ m = (let f : Some l ≡ Some m = sym is ∙ there in cc) in subst (λ x. ComesUnder x e) same at
last-under es l e is Equal at h m there = absurd (cc)
last-under es l e is Greater at h m there = absurd (cc)

pub under-last : (es : List Entry) (l e : Entry) → last es ≡ Some l → (o : Ordering) → entry_cmp l e ≡ o → StandsAfter ComesUnder es e → is_lt o ≡ true
under-last es l e is o at after = ap is_lt (sym at ∙ after l is)
