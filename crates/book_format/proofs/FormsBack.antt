-- The values of a form are read as the form.
use Rattle.std.proofs.Common.{◌≡◌, slice_get, refl, sym, ap, subst, ◌∙◌, ℕ, suc, ◌+◌, ◌-◌, ◌<◌, ◌≤◌, Bool, true, ltb, List, [], ◌∷◌, ◌++◌}
use Rattle.std.proofs.Common.{length, map, All, append_assoc, append-nil, Some, Ok, ◌⊎◌, inl, inr, arith}
use Rattle.std.proofs.lemmas.Bool.{lt-ltb, or_left, or_right}
use Rattle.std.proofs.lemmas.List.{get_or_default}
use Rattle.std.proofs.lemmas.List.Elements.{All-head, All-tail}
use Rattle.std.specs.List.{list_any}
use Rattle.serde_json.specs.View.{items_of}
use Rattle.transcripts.specs.Json.{outcome_data}
use Rattle.bound_specs.specs.Spec.{Spec, ranks}
use Rattle.fact_books.specs.declared.run.Run.{Run}
use Rattle.fact_books.specs.declared.run.Tag.{Tag}
use Rattle.fact_books.specs.declared.run.Tag.TheVariants.{Ran, Swap}
use Rattle.fact_books.specs.Entries.{Told, FactSet, recorded}
use Rattle.fact_books.specs.Runs.{Table, fact_in, has, IsNumbered, IsSound, AllSound}
use Rattle.fact_books.specs.Books.{Contents, IsRecordable, AllRecordable}
use Rattle.fact_books.specs.Recording.{EachRun}
use Rattle.fact_books.specs.Sweep.{IsIn}
use Rattle.fact_books.proofs.GapLemmas.{same_fact}
use Rattle.fact_books.proofs.RunLemmas.{and_true, within-from}
use Rattle.fact_books.proofs.SetLemmas.{contains-runs}
use Rattle.fact_books.proofs.VerdictLemmas.{in-push}
use Rattle.book_format.proofs.BackLemmas.{span_of}
use Rattle.book_format.specs.declared.pieces.TheConstants.{MAX_FACTS}
use Rattle.book_format.specs.Forms.{AllAfter, Rises, ComesBefore, IsLater, IsForm}
use Rattle.book_format.specs.BookText.{run_data, total_of}
use Rattle.book_format.specs.Reading.{Read, last, AreOutcomes}
use Rattle.book_format.specs.ReadingRuns.{span_in, run_of, IsLed, IsPast, IsNextRun, AreRuns, IsTagOf}
use Rattle.book_format.specs.ReadingLaws.{FormsReadBack}
use Rattle.book_format.proofs.ReadLemmas.{IsToldBy, last-push}
use Rattle.book_format.proofs.RunLaws.{IsLawful}
use Rattle.book_format.proofs.EndLemmas.{EachRun-all}

-- ---- outcomes

outcomes-back : (spec : Spec) (before os : Table) → Rises ComesBefore os → ((l : Told) → last before ≡ Some l → AllAfter ComesBefore l os)
    → All (IsToldBy spec) os
    → AreOutcomes spec before (items_of (map outcome_data os)) (Ok (before ++ os))
outcomes-back spec before [] rises after told = ap Ok (append-nil before)
outcomes-back spec before (o ∷ os) rises after told =
    let p = All-head (IsToldBy spec) o os told in
    inl (
      o,
      inl (o, record { value = refl; fits = p.1; own = p.0 }, inl (λ l e. (after l e).0, refl)),
      subst (λ t. AreOutcomes spec (before ++ o ∷ []) (items_of (map outcome_data os)) (Ok t)) (append_assoc before (o ∷ []) os)
          (outcomes-back spec (before ++ o ∷ []) os rises.1
          (λ l e. let same : o ≡ l = (let f : Some o ≡ Some l = sym (last-push before o) ∙ e in cc) in subst (λ x. AllAfter ComesBefore x os) same rises.0)
          (All-tail (IsToldBy spec) o os told)),
    )

-- ---- runs

last-in : (xs : List Run) (l : Run) → last xs ≡ Some l → IsIn l xs
last-in [] l e = absurd (cc)
last-in (x ∷ []) l e = let same : x ≡ l = cc in inl (sym same)
last-in (x ∷ y ∷ xs) l e = inr (last-in (y ∷ xs) l (sym (less y xs) ∙ e))
  where
    less : (y : Run) (xs : List Run) → last (x ∷ y ∷ xs) ≡ last (y ∷ xs)
    less y xs =
        let up : length (x ∷ y ∷ xs) - 1 ≡ suc (length xs) = omega arith in
        let down : length xs ≡ length (y ∷ xs) - 1 = omega arith in
        ap (λ n. slice_get (x ∷ y ∷ xs) n) up ∙ ap (λ n. slice_get (y ∷ xs) n) down

after-in : (x a : Run) (xs : List Run) → AllAfter IsLater x xs → IsIn a xs → IsLater x a
after-in x a [] h i = absurd i
after-in x a (y ∷ ys) h (inl e) = subst (IsLater x) (sym e) h.0
after-in x a (y ∷ ys) h (inr i) = after-in x a ys h.1 i

span-back : (n : ℕ) (run : Run) → IsTagOf n run.tag → run.first < run.end → span_in n (run_data run) ≡ Some (span_of run)
span-back n run known lt = on run.tag known
  where
    some : ltb 0 (run.end - run.first) ≡ true
    some = lt-ltb 0 (run.end - run.first) (omega (arith, lt))

    on : (g : Tag) → IsTagOf n g
        → span_in n (run_data (record { first = run.first; end = run.end; tag = g }))
        ≡ Some (record { first = run.first; count = run.end - run.first; tag = g })
    on (Ran m) below = rw (lt-ltb m n below, some) refl
    on (Swap k) below = rw (lt-ltb k 256 below, some) refl

-- each of the runs before comes before each that is left
abbrev AllEarlier : List Run → List Run → Type 0
AllEarlier before runs = (x y : Run) → IsIn x before → IsIn y runs → IsLater x y

pub next-past : (spec : Spec) (n : ℕ) (before : List Run) (facts : ℕ) (run : Run) → IsPast before run → IsLawful spec n run
    → facts + (run.end - run.first) ≤ MAX_FACTS → IsNextRun spec n before facts (run_data run) (Ok run)
next-past spec n before facts run past is few =
    inl (
      span_of run,
      span-back n run is.tag is.some,
      inl (few, inl (below, inl (led, inl (subst (IsPast before) (sym same) past, ap Ok (sym same))))),
    )
  where
    whole : run.first + (run.end - run.first) ≡ run.end
    whole = let some = is.some in omega (arith, some)

    same : run_of (span_of run) ≡ run
    same = λ i. record { first = run.first; end = whole i; tag = run.tag }

    below : run.first + (run.end - run.first) ≤ ranks spec
    below = let within = is.few in omega (arith, within, whole)

    led : IsLed spec run.first (run.first + (run.end - run.first)) run.tag
    led = subst (λ e. IsLed spec run.first e run.tag) (sym whole) is.led

next-back : (spec : Spec) (n : ℕ) (before : List Run) (facts : ℕ) (run : Run) → ((x : Run) → IsIn x before → IsLater x run) → IsLawful spec n run
    → facts + (run.end - run.first) ≤ MAX_FACTS → IsNextRun spec n before facts (run_data run) (Ok run)
next-back spec n before facts run earlier is few =
    next-past spec n before facts run
    (record {
      after = λ l e. (earlier l (last-in before l e)).later;
      apart = EachRun-all _ before (λ x i. (earlier x i).apart);
    })
    is few

runs-back : (spec : Spec) (n : ℕ) (before : List Run) (facts : ℕ) (runs : List Run) → AllEarlier before runs → Rises IsLater runs
    → EachRun (IsLawful spec n) runs
    → facts + total_of runs ≤ MAX_FACTS → AreRuns spec n before facts (items_of (map run_data runs)) (Ok (before ++ runs))
runs-back spec n before facts [] earlier rises each few = ap Ok (append-nil before)
runs-back spec n before facts (run ∷ runs) earlier rises each few =
    inl (
      run,
      next-back spec n before facts run (λ x i. earlier x run i (inl refl)) each.0 (omega (arith, few)),
      subst (λ rs. AreRuns spec n (before ++ run ∷ []) (facts + (run.end - run.first)) (items_of (map run_data runs)) (Ok rs)) (append_assoc before
          (run ∷ []) runs)
          (runs-back spec n (before ++ run ∷ []) (facts + (run.end - run.first)) runs (λ x y i j. later x y
          (in-push before run x i) j) rises.1 each.1 (omega (arith, few))),
    )
  where
    later : (x y : Run) → IsIn x before ⊎ (x ≡ run) → IsIn y runs → IsLater x y
    later x y (inl i) j = earlier x y i (inr j)
    later x y (inr e) j = subst (λ z. IsLater z y) (sym e) (after-in run y runs rises.0 j)

-- ---- what may stand in a book

any-in : (p : Run → Bool) (runs : List Run) (run : Run) → IsIn run runs → p run ≡ true → list_any p runs ≡ true
any-in p [] run i h = absurd i
any-in p (x ∷ xs) run (inl e) h = or_left (p x) (list_any p xs) (ap p (sym e) ∙ h)
any-in p (x ∷ xs) run (inr i) h = or_right (p x) (list_any p xs) (any-in p xs run i h)

module _ (spec : Spec) (facts : FactSet) (table : Table) (runs : List Run) (form : IsForm facts table runs) (all : AllRecordable spec facts) where
  -- what a run says of one of its ranks may stand in a book
  said : (run : Run) → IsIn run runs → (r : ℕ) → run.first ≤ r → r < run.end → IsRecordable spec r (fact_in table run.tag)
  said run i r low lt = all r (fact_in table run.tag)
      (subst (λ s. recorded s r (fact_in table run.tag) ≡ true) form.facts_are
      (contains-runs table runs (r, fact_in table run.tag)
      ∙ any-in (has table (r, fact_in table run.tag)) runs run i (and_true _ _ (within-from run.first run.end r low lt) (same_fact (fact_in table run.tag)))))

  sound-in : (run : Run) → (rs : List Run) → AllSound (length table) rs → IsIn run rs → IsSound (length table) run
  sound-in run [] sound i = absurd i
  sound-in run (x ∷ xs) sound (inl e) = subst (IsSound (length table)) (sym e) sound.0
  sound-in run (x ∷ xs) sound (inr i) = sound-in run xs sound.1 i

  lawful : (run : Run) → IsIn run runs → IsLawful spec (length table) run
  lawful run i = record { tag = on run.tag sound.0 (said run i run.first (omega arith) lt); some = lt; few = few; led = leads run.tag (said run i) }
    where
      sound : IsSound (length table) run
      sound = sound-in run runs form.sound i

      lt : run.first < run.end
      lt = sound.1

      rank-of : (g : Tag) (r : ℕ) → IsRecordable spec r (fact_in table g) → r < ranks spec
      rank-of (Ran m) r h = h.0
      rank-of (Swap k) r h = h.0

      few : run.end ≤ ranks spec
      few = let most = rank-of run.tag (run.end - 1) (said run i (run.end - 1) (omega (arith, lt)) (omega (arith, lt))) in omega (arith, most, lt)

      on : (g : Tag) → IsNumbered (length table) g → IsRecordable spec run.first (fact_in table g) → IsTagOf (length table) g
      on (Ran m) below h = below
      on (Swap k) below h = h.1

      leads : (g : Tag) → ((r : ℕ) → run.first ≤ r → r < run.end → IsRecordable spec r (fact_in table g)) → IsLed spec run.first run.end g
      leads (Ran m) h = tt
      leads (Swap k) h = λ r low below. (h r low below).2

  told : All (IsToldBy spec) table
  told = λ m d below.
      let named = form.named m below in
      let run = named.0 in
      let lt = (sound-in run runs form.sound named.1).1 in
      let h = subst (λ g. IsRecordable spec run.first (fact_in table g)) named.2 (said run named.1 run.first (omega arith) lt) in
      subst (IsToldBy spec) (get_or_default table m [] d below) (h.1, h.2)

pub forms-back : FormsReadBack
forms-back file facts table runs form all few =
    inl (
      table,
      outcomes-back file.run [] table form.table_rises (λ l e. absurd (none l e)) (told file.run facts table runs form all),
      inl (
        runs,
        inl (
          runs,
          runs-back file.run (length table) [] 0 runs (λ x y i j. absurd i) form.runs_rise
              (EachRun-all (IsLawful file.run (length table)) runs (lawful file.run facts table runs form all)) (omega (arith, few)),
          inl (form.named, refl),
        ),
        ap with_facts (sym form.facts_are),
      ),
    )
  where
    with_facts : FactSet → Read Contents
    with_facts s = Ok (record { file = file; facts = s })

    none : (l : Told) → last [] ≡ Some l → ⊥
    none l e = cc
