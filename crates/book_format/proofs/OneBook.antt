-- What bytes are read as is one: each relation of reading has one answer at most.
use Rattle.std.proofs.Common.{◌≡◌, sym, subst, ◌∙◌, ℕ, ◌+◌, ◌-◌, ◌<◌, ◌≤◌, List, [], ◌∷◌, ◌++◌, length, codes, Option, Some, Ok, Err, inl, inr}
use Rattle.serde_json.specs.Data.{Data, Items, no_items, item}
use Rattle.bound_specs.specs.Spec.{Spec, ranks}
use Rattle.bound_specs.specs.Binding.{IsFileOf}
use Rattle.bound_specs.proofs.FileLemmas.{one-file}
use Rattle.rank_facts.specs.declared.fact.Fact.TheVariants.{Ran, Swap}
use Rattle.fact_books.specs.declared.run.Run.{Run}
use Rattle.fact_books.specs.Entries.{Told, Entry}
use Rattle.fact_books.specs.Runs.{Table}
use Rattle.fact_books.specs.Books.{facts_in}
use Rattle.std.specs.FinSet.{from_list}
use Rattle.book_format.specs.declared.error.BookError.{BookError}
use Rattle.book_format.specs.declared.error.BookError.TheVariants.{NotJson, BadField, BadVersion, BadSpec, BadRank, OutOfOrder, BadSwap, TooLarge}
use Rattle.book_format.specs.declared.pieces.TheConstants.{MAX_TEXT, MAX_FACTS}
use Rattle.book_format.specs.declared.reading.parts.Version.{Version}
use Rattle.book_format.specs.declared.reading.parts.Version.TheVariants.{Facts, Runs, Other}
use Rattle.book_format.specs.Forms.{ComesBefore}
use Rattle.book_format.specs.Reading.{Read, Unless, Given, Then, Gives, StandsAfter, IsOutcomeValue, IsOutcome, IsNextOutcome, AreOutcomes}
use Rattle.book_format.specs.ReadingRuns.{span_in, run_of, IsLed, IsPast, IsNextRun, AreRuns, AllNamed, AreRunsOf}
use Rattle.book_format.specs.ReadingFacts.{place_in, IsFact, entry_parts, IsEntry, IsFactLed, ComesUnder, IsNextEntry, AreEntries}
use Rattle.book_format.specs.ReadingBooks.{fact_parts, run_parts, format_in, version_with, IsFactsOf, IsRunsOf, IsFactsBook, IsRunsBook}
use Rattle.book_format.specs.ReadingBooks.{IsBookOf}
use Rattle.book_format.specs.ReadingBooks.{IsBookValue, IsValueOf, IsBookFile}
use Rattle.compact_outcomes.proofs.OutcomeValues.{told-one}

-- ---- relations with one answer

abbrev HasOne : {X : Type 0} → (Read X → Type 0) → Type 0
HasOne {X = X} P = (a b : Read X) → P a → P b → a ≡ b

same-ok : {X : Type 0} (x y : X) → (let r : Read X = Ok x in r) ≡ Ok y → x ≡ y
same-ok x y is = cc

no-error : {X : Type 0} (x : X) (e : BookError) → (let r : Read X = Ok x in r) ≡ Err e → ⊥
no-error x e is = cc

same-error : {X Y : Type 0} (e f : BookError) (a b : Read Y) → (let r : Read X = Err e in r) ≡ Err f → a ≡ Err e → b ≡ Err f → a ≡ b
same-error e f a b is p q = let one : e ≡ f = cc in p ∙ (λ i. Err (one i)) ∙ sym q

some-one : {X : Type 0} (o : Option X) (x y : X) → o ≡ Some x → o ≡ Some y → x ≡ y
some-one o x y p q = cc

gives-one : {X : Type 0} (x : X) → HasOne (Gives x)
gives-one x a b p q = p ∙ sym q

refused-one : {X : Type 0} (e : BookError) → HasOne (λ (r : Read X). r ≡ Err e)
refused-one e a b p q = p ∙ sym q

unless-one : {X : Type 0} (P : Type 0) (e : BookError) (Q : Read X → Type 0) → HasOne Q → HasOne (Unless P e Q)
unless-one P e Q one a b (inl (p, q)) (inl (o, r)) = one a b q r
unless-one P e Q one a b (inl (p, q)) (inr (not, is)) = absurd (not p)
unless-one P e Q one a b (inr (not, is)) (inl (p, q)) = absurd (not p)
unless-one P e Q one a b (inr (not, is)) (inr (never, other)) = is ∙ sym other

given-one : {A X : Type 0} (e : BookError) (P : A → Type 0) (Q : A → Read X → Type 0) → ((x y : A) → P x → P y → x ≡ y) → ((x : A) → HasOne (Q x))
    → HasOne (Given e P Q)
given-one e P Q only one a b (inl (x, p, q)) (inl (y, o, r)) = one y a b (subst (λ z. Q z a) (only x y p o) q) r
given-one e P Q only one a b (inl (x, p, q)) (inr (none, is)) = absurd (none x p)
given-one e P Q only one a b (inr (none, is)) (inl (x, p, q)) = absurd (none x p)
given-one e P Q only one a b (inr (none, is)) (inr (never, other)) = is ∙ sym other

then-one : {A X : Type 0} (P : Read A → Type 0) (Q : A → Read X → Type 0) → HasOne P → ((x : A) → HasOne (Q x)) → HasOne (Then P Q)
then-one P Q first one a b (inl (x, p, q)) (inl (y, o, r)) =
    one y a b (subst (λ z. Q z a) (same-ok x y (first (Ok x) (Ok y) p o)) q) r
then-one P Q first one a b (inl (x, p, q)) (inr (f, o, other)) = absurd (no-error x f (first (Ok x) (Err f) p o))
then-one P Q first one a b (inr (e, p, is)) (inl (y, o, r)) = absurd (no-error y e (first (Ok y) (Err e) o p))
then-one {A = A} P Q first one a b (inr (e, p, is)) (inr (f, o, other)) = same-error {X = A} e f a b (first (Err e) (Err f) p o) is other

-- ---- outcomes

value-one : (spec : Spec) (d : Data) (x y : Told) → IsOutcomeValue spec d x → IsOutcomeValue spec d y → x ≡ y
value-one spec d x y p q = told-one x y (p.value ∙ sym q.value)

outcome-one : (spec : Spec) (d : Data) → HasOne (IsOutcome spec d)
outcome-one spec d = given-one BadField (IsOutcomeValue spec d) Gives (value-one spec d) gives-one

next-outcome-one : (spec : Spec) (before : Table) (d : Data) → HasOne (IsNextOutcome spec before d)
next-outcome-one spec before d =
    given-one BadField (IsOutcomeValue spec d) (λ outcome. Unless (StandsAfter ComesBefore before outcome) OutOfOrder (Gives outcome)) (value-one spec d)
    (λ outcome. unless-one (StandsAfter ComesBefore before outcome) OutOfOrder (Gives outcome) (gives-one outcome))

outcomes-one : (spec : Spec) (before : Table) (ds : Items) → HasOne (AreOutcomes spec before ds)
outcomes-one spec before no_items = gives-one before
outcomes-one spec before (item d ds) =
    then-one (IsNextOutcome spec before d) (λ outcome. AreOutcomes spec (before ++ outcome ∷ []) ds) (next-outcome-one spec before d)
    (λ outcome. outcomes-one spec (before ++ outcome ∷ []) ds)

-- ---- runs

next-run-one : (spec : Spec) (outcomes : ℕ) (before : List Run) (facts : ℕ) (d : Data) → HasOne (IsNextRun spec outcomes before facts d)
next-run-one spec outcomes before facts d =
    given-one BadField (λ span. span_in outcomes d ≡ Some span) _ (some-one (span_in outcomes d))
    (λ span. unless-one (facts + span.count ≤ MAX_FACTS) TooLarge _ (unless-one (span.first + span.count ≤ ranks spec) BadRank _
    (unless-one (IsLed spec span.first (span.first + span.count) span.tag) BadSwap _ (unless-one (IsPast before (run_of span)) OutOfOrder _
    (gives-one (run_of span))))))

runs-one : (spec : Spec) (outcomes : ℕ) (before : List Run) (facts : ℕ) (ds : Items) → HasOne (AreRuns spec outcomes before facts ds)
runs-one spec outcomes before facts no_items = gives-one before
runs-one spec outcomes before facts (item d ds) =
    then-one (IsNextRun spec outcomes before facts d) (λ run. AreRuns spec outcomes (before ++ run ∷ []) (facts + (run.end - run.first)) ds)
    (next-run-one spec outcomes before facts d) (λ run. runs-one spec outcomes (before ++ run ∷ []) (facts + (run.end - run.first)) ds)

all-runs-one : (spec : Spec) (outcomes : ℕ) (ds : Items) → HasOne (AreRunsOf spec outcomes ds)
all-runs-one spec outcomes ds =
    then-one (AreRuns spec outcomes [] 0 ds) (λ runs. Unless (AllNamed outcomes runs) BadField (Gives runs)) (runs-one spec outcomes [] 0 ds)
    (λ runs. unless-one (AllNamed outcomes runs) BadField (Gives runs) (gives-one runs))

-- ---- facts one by one

fact-one : (spec : Spec) (word : List ℕ) (d : Data) → HasOne (IsFact spec word d)
fact-one spec word d a b (inl (ran, p)) (inl (also, q)) = then-one (IsOutcome spec d) (λ outcome. Gives (Ran outcome)) (outcome-one spec d) (λ o. gives-one (Ran o)) a b p q
fact-one spec word d a b (inl (ran, p)) (inr (inl (swap, q))) = absurd (let both : codes "ran" ≡ codes "swap" = sym ran ∙ swap in cc)
fact-one spec word d a b (inl (ran, p)) (inr (inr (not, never, q))) = absurd (not ran)
fact-one spec word d a b (inr (inl (swap, p))) (inl (ran, q)) = absurd (let both : codes "ran" ≡ codes "swap" = sym ran ∙ swap in cc)
fact-one spec word d a b (inr (inl (swap, p))) (inr (inl (also, q))) =
    given-one BadField (λ k. place_in d ≡ Some k) (λ k. Gives (Swap k)) (some-one (place_in d)) (λ k. gives-one (Swap k)) a b p q
fact-one spec word d a b (inr (inl (swap, p))) (inr (inr (not, never, q))) = absurd (never swap)
fact-one spec word d a b (inr (inr (not, never, p))) (inl (ran, q)) = absurd (not ran)
fact-one spec word d a b (inr (inr (not, never, p))) (inr (inl (swap, q))) = absurd (never swap)
fact-one spec word d a b (inr (inr (not, never, p))) (inr (inr (neither, nor, q))) = p ∙ sym q

entry-one : (spec : Spec) (d : Data) → HasOne (IsEntry spec d)
entry-one spec d =
    given-one BadField (λ parts. entry_parts d ≡ Some parts) (λ parts. Then (IsFact spec parts.word parts.value) (λ fact. Gives (parts.rank, fact)))
    (some-one (entry_parts d)) (λ parts. then-one (IsFact spec parts.word parts.value) (λ fact. Gives (parts.rank, fact))
    (fact-one spec parts.word parts.value) (λ fact. gives-one (parts.rank, fact)))

next-entry-one : (spec : Spec) (before : List Entry) (d : Data) → HasOne (IsNextEntry spec before d)
next-entry-one spec before d =
    then-one (IsEntry spec d) _ (entry-one spec d)
    (λ entry. unless-one (entry.0 < ranks spec) BadRank _ (unless-one (IsFactLed spec entry.0 entry.1) BadSwap _
    (unless-one (StandsAfter ComesUnder before entry) OutOfOrder (Gives entry) (gives-one entry))))

entries-one : (spec : Spec) (before : List Entry) (ds : Items) → HasOne (AreEntries spec before ds)
entries-one spec before no_items = gives-one before
entries-one spec before (item d ds) =
    then-one (IsNextEntry spec before d) (λ entry. AreEntries spec (before ++ entry ∷ []) ds) (next-entry-one spec before d)
    (λ entry. entries-one spec (before ++ entry ∷ []) ds)

-- ---- books

facts-one : (d : Data) → HasOne (IsFactsBook d)
facts-one d =
    given-one BadField (λ parts. fact_parts d ≡ Some parts) _ (some-one (fact_parts d))
    (λ parts. given-one BadSpec (IsFileOf parts.text) (λ file. IsFactsOf file parts.facts) (one-file parts.text)
    (λ file. then-one (AreEntries file.run [] parts.facts) (λ entries. Gives (record { file = file; facts = from_list entries }))
    (entries-one file.run [] parts.facts) (λ entries. gives-one (record { file = file; facts = from_list entries }))))

book-of-runs-one : (d : Data) → HasOne (IsRunsBook d)
book-of-runs-one d =
    given-one BadField (λ parts. run_parts d ≡ Some parts) _ (some-one (run_parts d))
    (λ parts. given-one BadSpec (IsFileOf parts.text) (λ file. IsRunsOf file parts.facts parts.outcomes) (one-file parts.text)
    (λ file. then-one (AreOutcomes file.run [] parts.outcomes) _ (outcomes-one file.run [] parts.outcomes)
    (λ table. then-one (AreRunsOf file.run (length table) parts.facts) (λ runs. Gives (record { file = file; facts = facts_in table runs }))
    (all-runs-one file.run (length table) parts.facts) (λ runs. gives-one (record { file = file; facts = facts_in table runs })))))

version-one : (version : Version) (d : Data) → HasOne (IsBookOf version d)
version-one Facts d = facts-one d
version-one Runs d = book-of-runs-one d
version-one Other d = refused-one BadVersion

value-book-one : (d : Data) → HasOne (IsBookValue d)
value-book-one d =
    given-one BadField (λ n. format_in d ≡ Some n) (λ n. IsBookOf (version_with n) d) (some-one (format_in d)) (λ n. version-one (version_with n) d)

bytes-one : (bytes : List ℕ) (c d : Data) → IsValueOf bytes c → IsValueOf bytes d → c ≡ d
bytes-one bytes c d p q = some-one _ c d p.1 q.1

-- bytes are one book at most, or are refused for one reason
pub one-book : (bytes : List ℕ) → HasOne (IsBookFile bytes)
one-book bytes =
    unless-one (length bytes ≤ MAX_TEXT) TooLarge _ (given-one NotJson (IsValueOf bytes) IsBookValue (bytes-one bytes) value-book-one)
