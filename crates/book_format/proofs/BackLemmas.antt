-- A book's value is read as the book.
use Rattle.std.proofs.Common.{◌≡◌, refl, sym, ap, subst, ◌∙◌, ℕ, zero, suc, ◌+◌, ◌-◌, ◌<◌, ◌≤◌, true, List, [], ◌∷◌, ◌++◌, map, length, get_or}
use Rattle.std.proofs.Common.{Some, Ok, inl, inr, ◌⊎◌, append_assoc, append-nil, arith}
use Rattle.std.specs.Prelude.{All, IsUtf8, nat_lt, slice_get}
use Rattle.std.proofs.lemmas.Bool.{lt-ltb}
use Rattle.std.specs.FinSet.{contains}
use Rattle.serde_json.specs.View.{items_of}
use Rattle.serde_json.specs.Read.{read}
use Rattle.serde_json.proofs.OnLiterals.{serde_json_on_literals}
use Rattle.transcripts.specs.Outcome.{OutcomeFits}
use Rattle.transcripts.specs.Json.{outcome_data}
use Rattle.machine_model.specs.Outcome.{IsOutcomeOf}
use Rattle.rank_facts.specs.declared.fact.Fact.TheVariants.{Ran as RanFact}
use Rattle.bound_specs.specs.Spec.{Spec, ranks}
use Rattle.bound_specs.specs.Binding.{IsFileOf}
use Rattle.fact_books.specs.declared.run.Run.{Run}
use Rattle.fact_books.specs.declared.run.Tag.{Tag}
use Rattle.fact_books.specs.declared.run.Tag.TheVariants.{Ran, Swap}
use Rattle.fact_books.specs.Entries.{Told}
use Rattle.fact_books.specs.Runs.{Table, fact_in, has, IsNumbered, IsSound}
use Rattle.fact_books.specs.Books.{Contents, IsRecordable, AllRecordable}
use Rattle.fact_books.specs.Sweep.{IsIn}
use Rattle.fact_books.specs.Recording.{EachRun}
use Rattle.fact_books.proofs.SetLemmas.{contains-runs}
use Rattle.fact_books.proofs.VerdictLemmas.{in-push}
use Rattle.book_format.specs.declared.reading.runs.Span.{Span}
use Rattle.book_format.specs.declared.pieces.TheConstants.{MAX_TEXT, MAX_FACTS}
use Rattle.book_format.specs.Forms.{AllAfter, Rises, ComesBefore, IsLater, IsForm}
use Rattle.book_format.specs.BookText.{run_data, book_data, IsTextOf, total_of}
use Rattle.book_format.specs.Laws.{RunFits}
use Rattle.book_format.specs.Reading.{last, AreOutcomes}
use Rattle.book_format.specs.ReadingRuns.{span_in, run_of, IsLed, IsPast, IsNextRun, AreRuns}
use Rattle.book_format.specs.ReadingBooks.{IsBookValue, IsBookFile}
use Rattle.fact_books.proofs.VerdictLemmas.{in-any}
use Rattle.book_format.proofs.OneForm.{in-at, sound-in, place-in, true-has}
use Rattle.book_format.proofs.ReadLemmas.{last-push}
use Rattle.book_format.proofs.TextLemmas.{text-read}

-- ---- outcomes

abbrev MayStand : Spec → Told → Type 0
MayStand spec o = OutcomeFits o × IsOutcomeOf spec o

outcomes-back : (spec : Spec) (before rest : Table) → ((l : Told) → last before ≡ Some l → AllAfter ComesBefore l rest) → Rises ComesBefore rest
    → ((o : Told) → IsIn o rest → MayStand spec o) → AreOutcomes spec before (items_of (map outcome_data rest)) (Ok (before ++ rest))
outcomes-back spec before [] after rises may = ap Ok (append-nil before)
outcomes-back spec before (o ∷ os) after rises may =
    let m = may o (inl refl) in
    inl (
      o,
      inl (o, record { value = refl; fits = m.0; own = m.1 }, inl (λ l e. (after l e).0, refl)),
      subst (λ t. AreOutcomes spec (before ++ o ∷ []) (items_of (map outcome_data os)) (Ok t)) (append_assoc before (o ∷ []) os)
          (outcomes-back spec (before ++ o ∷ []) os next rises.1 (λ p i. may p (inr i))),
    )
  where
    next : (l : Told) → last (before ++ o ∷ []) ≡ Some l → AllAfter ComesBefore l os
    next l e = subst (λ p. AllAfter ComesBefore p os) (same l (sym (last-push before o) ∙ e)) rises.0
      where
        same : (l : Told) → Some o ≡ Some l → o ≡ l
        same l e = cc

-- ---- a run

abbrev pub span_of : Run → Span
span_of run = record { first = run.first; count = run.end - run.first; tag = run.tag }

-- the number is one of n outcomes, or a byte
abbrev IsTagIn : ℕ → Tag → Type 0
IsTagIn n (Ran m) = m < n
IsTagIn n (Swap k) = k < 256

span-back : (n : ℕ) (run : Run) → run.first < run.end → IsTagIn n run.tag → span_in n (run_data run) ≡ Some (span_of run)
unfolding serde_json_on_literals
span-back n run some inside = on run.tag inside
  where
    count : nat_lt 0 (run.end - run.first) ≡ true
    count = lt-ltb 0 (run.end - run.first) (omega (arith, some))

    on : (tag : Tag) → IsTagIn n tag → span_in n (run_data (record { first = run.first; end = run.end; tag = tag }))
        ≡ Some (record { first = run.first; count = run.end - run.first; tag = tag })
    on (Ran m) lt = rw (lt-ltb m n lt, count) refl
    on (Swap k) lt = rw (lt-ltb k 256 lt, count) refl

run-back : (run : Run) → run.first < run.end → run_of (span_of run) ≡ run
run-back run some = let e : run.first + (run.end - run.first) ≡ run.end = omega (arith, some) in λ i. record { first = run.first; end = e i; tag = run.tag }

last-in : {A : Type 0} (xs : List A) (l : A) → last xs ≡ Some l → IsIn l xs
last-in [] l e = absurd (cc)
last-in (x ∷ xs) l e = on (length xs) refl
  where
    on : (n : ℕ) → length xs ≡ n → IsIn l (x ∷ xs)
    on n is = from (x ∷ xs) (length (x ∷ xs) - 1) e
      where
        from : (ys : List _) (k : ℕ) → slice_get ys k ≡ Some l → IsIn l ys
        from [] k f = absurd (cc)
        from (y ∷ ys) zero f = inl (same f)
          where
            same : Some y ≡ Some l → l ≡ y
            same f = cc
        from (y ∷ ys) (suc k) f = inr (from ys k f)

each-in : (P : Run → Type 0) (runs : List Run) → ((x : Run) → IsIn x runs → P x) → EachRun P runs
each-in P [] h = tt
each-in P (x ∷ xs) h = (h x (inl refl), each-in P xs (λ y i. h y (inr i)))

-- what a run asks, besides its place
record MayFollow (spec : Spec) (n : ℕ) (run : Run) : Type 0 where
  some : run.first < run.end
  tag : IsTagIn n run.tag
  inside : run.end ≤ ranks spec
  led : IsLed spec run.first run.end run.tag

next-back : (spec : Spec) (n : ℕ) (before : List Run) (facts : ℕ) (run : Run) → MayFollow spec n run → facts + (run.end - run.first) ≤ MAX_FACTS
    → ((x : Run) → IsIn x before → IsLater x run) → IsNextRun spec n before facts (run_data run) (Ok run)
next-back spec n before facts run may few later =
    let whole : run.first + (run.end - run.first) ≡ run.end = let s = may.some in omega (arith, s) in
    inl (
      span_of run,
      span-back n run may.some may.tag,
      inl (
        few,
        inl (
          subst (λ e. e ≤ ranks spec) (sym whole) may.inside,
          inl (
            subst (λ e. IsLed spec run.first e run.tag) (sym whole) may.led,
            inl (subst (IsPast before) (sym (run-back run may.some)) past, ap Ok (sym (run-back run may.some))),
          ),
        ),
      ),
    )
  where
    past : IsPast before run
    past = record {
      after = λ l e. (later l (last-in before l e)).later;
      apart = each-in (λ x. x.tag ≡ run.tag → x.end < run.first) before (λ x i. (later x i).apart);
    }

runs-back : (spec : Spec) (n : ℕ) (before : List Run) (facts : ℕ) (rest : List Run) → facts + total_of rest ≤ MAX_FACTS
    → ((x : Run) → IsIn x before → AllAfter IsLater x rest) → Rises IsLater rest → ((x : Run) → IsIn x rest → MayFollow spec n x)
    → AreRuns spec n before facts (items_of (map run_data rest)) (Ok (before ++ rest))
runs-back spec n before facts [] few after rises may = ap Ok (append-nil before)
runs-back spec n before facts (run ∷ runs) few after rises may =
    inl (
      run,
      next-back spec n before facts run (may run (inl refl)) (omega (arith, few)) (λ x i. (after x i).0),
      subst (λ t. AreRuns spec n (before ++ run ∷ []) (facts + (run.end - run.first)) (items_of (map run_data runs)) (Ok t))
          (append_assoc before (run ∷ []) runs)
          (runs-back spec n (before ++ run ∷ []) (facts + (run.end - run.first)) runs (omega (arith, few)) next rises.1 (λ x i. may x (inr i))),
    )
  where
    next : (x : Run) → IsIn x (before ++ run ∷ []) → AllAfter IsLater x runs
    next x i = on (in-push before run x i)
      where
        on : IsIn x before ⊎ (x ≡ run) → AllAfter IsLater x runs
        on (inl j) = (after x j).1
        on (inr e) = subst (λ y. AllAfter IsLater y runs) (sym e) rises.0

all-in : {X : Type 0} (P : X → Type 0) (xs : List X) → ((x : X) → IsIn x xs → P x) → All P xs
all-in P xs h = λ k d lt. h (get_or xs k d) (in-at d xs k lt)

-- ---- a form

module _
    (book : Contents)
    (table : Table)
    (runs : List Run)
    (form : IsForm book.facts table runs)
    (recordable : AllRecordable book.file.run book.facts) where
  -- what a run says of a rank may stand there
  says : (run : Run) (r : ℕ) → IsIn run runs → run.first ≤ r → r < run.end → IsRecordable book.file.run r (fact_in table run.tag)
  says run r i low high =
      recordable r (fact_in table run.tag)
      (ap (λ s. contains s (r, fact_in table run.tag)) (sym form.facts_are) ∙ contains-runs table runs (r, fact_in table run.tag)
      ∙ in-any (has table (r, fact_in table run.tag)) runs run i (true-has table r (fact_in table run.tag) run low high refl))

  told : (o : Told) → IsIn o table → MayStand book.file.run o
  told o i =
      let p = place-in [] table o i in
      let by = form.named p.0 p.1 in
      let some = (sound-in (length table) runs by.0 form.sound by.1).1 in
      let may = subst (IsRecordable book.file.run by.0.first) (ap (fact_in table) by.2 ∙ ap RanFact p.2) (says by.0 by.0.first by.1 (omega arith) some) in
      (may.2, may.1)

  follows : (run : Run) → IsIn run runs → MayFollow book.file.run (length table) run
  follows run i = record {
    some = sound.1;
    tag = tag run.tag refl sound.0;
    inside = let s = sound.1 in let r = inside run.tag refl in omega (arith, s, r);
    led = led run.tag refl;
  }
    where
      sound : IsSound (length table) run
      sound = sound-in (length table) runs run form.sound i

      at : (g : Tag) → run.tag ≡ g → (r : ℕ) → run.first ≤ r → r < run.end → IsRecordable book.file.run r (fact_in table g)
      at g e r low high = subst (λ t. IsRecordable book.file.run r (fact_in table t)) e (says run r i low high)

      tag : (g : Tag) → run.tag ≡ g → IsNumbered (length table) g → IsTagIn (length table) g
      tag (Ran n) e lt = lt
      tag (Swap k) e u = (at (Swap k) e run.first (omega arith) sound.1).1

      inside : (g : Tag) → run.tag ≡ g → run.end - 1 < ranks book.file.run
      inside (Ran n) e = (at (Ran n) e (run.end - 1) (let s = sound.1 in omega (arith, s)) (let s = sound.1 in omega (arith, s))).0
      inside (Swap k) e = (at (Swap k) e (run.end - 1) (let s = sound.1 in omega (arith, s)) (let s = sound.1 in omega (arith, s))).0

      led : (g : Tag) → run.tag ≡ g → IsLed book.file.run run.first run.end g
      led (Ran n) e = tt
      led (Swap k) e = λ r low high. (at (Swap k) e r low high).2

  -- the book's value is read as the book
  pub value-back : IsFileOf book.file.text book.file → total_of runs ≤ MAX_FACTS → IsBookValue (book_data book.file.text table runs) (Ok book)
  unfolding serde_json_on_literals
  value-back is_file few =
      inl (
        2,
        refl,
        inl (
          record { facts = items_of (map run_data runs); outcomes = items_of (map outcome_data table); text = book.file.text },
          refl,
          inl (
            book.file,
            is_file,
            inl (
              table,
              outcomes-back book.file.run [] table (λ l e. absurd (cc)) form.table_rises told,
              inl (
                runs,
                inl (
                  runs,
                  runs-back book.file.run (length table) [] 0 runs (omega (arith, few)) (λ x i. absurd i) form.runs_rise follows,
                  inl (form.named, refl),
                ),
                ap (λ s. Ok (record { file = book.file; facts = s })) (sym form.facts_are),
              ),
            ),
          ),
        ),
      )

-- what is written of a book is read as the book
pub text-back : (text : List ℕ) (book : Contents) (t : IsTextOf text book) → IsFileOf book.file.text book.file → AllRecordable book.file.run book.facts
    → IsUtf8 text → length text ≤ MAX_TEXT → total_of t.runs ≤ MAX_FACTS → All RunFits t.runs → IsBookFile text (Ok book)
text-back text book t is_file recordable utf8 short few fits =
    let outcomes = all-in OutcomeFits t.table (λ o i. (told book t.table t.runs t.form recordable o i).0) in
    inl (
      short,
      inl (
        book_data book.file.text t.table t.runs,
        (utf8, ap read t.text_is ∙ text-read book.file.text t.table t.runs outcomes fits),
        value-back book t.table t.runs t.form recordable is_file few,
      ),
    )
