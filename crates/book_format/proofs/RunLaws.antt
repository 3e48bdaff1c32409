-- What is read as runs may stand in a book of the spec, in the order of the first ranks.
use Rattle.std.proofs.Common.{◌≡◌, refl, sym, subst, ◌∙◌, ℕ, ◌+◌, ◌-◌, ◌<◌, ◌≤◌, Bool, true, false, cond, List, [], ◌∷◌, ◌++◌, length}
use Rattle.std.proofs.Common.{All, Option, Some, None, Ok, inl, inr, arith}
use Rattle.std.specs.Prelude.{option_and_then, nat_lt, bytes_eq, codes}
use Rattle.std.proofs.lemmas.Bool.{ltb-true}
use Rattle.std.specs.declared.cmp.Ordering.{Ordering}
use Rattle.std.specs.declared.cmp.Ordering.TheVariants.{Less, Equal, Greater}
use Rattle.std.specs.Ordering.{ordering_then, nat_cmp}
use Rattle.std.specs.Cmp.{ranked}
use Rattle.serde_json.specs.Data.{Data, null, boolean, number, string, array, object, Items, no_items, item}
use Rattle.serde_json.specs.Find.{as_str}
use Rattle.bound_specs.specs.Spec.{Spec, ranks}
use Rattle.fact_books.specs.declared.run.Run.{Run}
use Rattle.fact_books.specs.declared.run.Tag.{Tag}
use Rattle.fact_books.specs.declared.run.Tag.TheVariants.{Ran, Swap}
use Rattle.fact_books.specs.Runs.{Table, fact_in, firsts, AllTo, IsRising, IsNumbered, AllSound}
use Rattle.fact_books.specs.Books.{IsRecordable}
use Rattle.fact_books.specs.Recording.{EachRun, IsRecordableRun}
use Rattle.fact_books.proofs.RunLemmas.{firsts-push, AllTo-push, AllTo-more, IsRising-push}
use Rattle.book_format.specs.declared.error.BookError.TheVariants.{BadField, BadRank, OutOfOrder, BadSwap, TooLarge}
use Rattle.book_format.specs.declared.reading.runs.Span.{Span}
use Rattle.book_format.specs.declared.pieces.TheConstants.{MAX_FACTS}
use Rattle.book_format.specs.Forms.{tag_kind, tag_number}
use Rattle.book_format.specs.Reading.{Unless, Gives, whole_in, last, StandsAfter}
use Rattle.book_format.specs.ReadingRuns.{tag_in, span_with, span_in_four, span_in_items, span_in, run_of, IsLed, ComesAhead, IsPast, IsNextRun, AreRuns}
use Rattle.book_format.specs.ReadingRuns.{AllNamed, AreRunsOf, IsTagOf}
use Rattle.book_format.proofs.ReadLemmas.{IsPlain, plain-gives, plain-unless, plain-then, plain-refusal, last-push, last-none, IsToldBy}

-- ---- a run's value

pub some-bind : {X Y : Type 0} (f : X → Option Y) (o : Option X) (y : Y) → option_and_then f o ≡ Some y → (x : X) × (o ≡ Some x) × (f x ≡ Some y)
some-bind f None y is = absurd (cc)
some-bind f (Some x) y is = (x, refl, is)

pub some-cond : {Y : Type 0} (b : Bool) (y z : Y) → cond b (Some y) None ≡ Some z → (b ≡ true) × (y ≡ z)
some-cond true y z is = (refl, cc)
some-cond false y z is = absurd (cc)

tag-fits : (n : ℕ) (word : List ℕ) (m : ℕ) (tag : Tag) → tag_in n word m ≡ Some tag → IsTagOf n tag
tag-fits n word m tag is = on (bytes_eq word (codes "ran")) (bytes_eq word (codes "swap")) is
  where
    on : (a b : Bool) → cond a (cond (nat_lt m n) (Some (Ran m)) None) (cond b (cond (nat_lt m 256) (Some (Swap m)) None) None) ≡ Some tag → IsTagOf n tag
    on true b is = let p = some-cond (nat_lt m n) (Ran m) tag is in subst (IsTagOf n) p.1 (ltb-true m n p.0)
    on false true is = let p = some-cond (nat_lt m 256) (Swap m) tag is in subst (IsTagOf n) p.1 (ltb-true m 256 p.0)
    on false false is = absurd (cc)

-- a run that a value has names an outcome that is there or a place that is a byte, and has a rank
abbrev pub IsFitting : ℕ → Span → Type 0
IsFitting n span = IsTagOf n span.tag × (0 < span.count)

with-fits : (n first count : ℕ) (word : List ℕ) (m : ℕ) (span : Span) → span_with first count (tag_in n word m) ≡ Some span → IsFitting n span
with-fits n first count word m span is = on (tag_in n word m) refl is
  where
    on : (o : Option Tag) → tag_in n word m ≡ o → span_with first count o ≡ Some span → IsFitting n span
    on None told is = absurd (cc)
    on (Some tag) told is =
        let p = some-cond (nat_lt 0 count) _ span is in
        subst (IsFitting n) p.1 (tag-fits n word m tag told, ltb-true 0 count p.0)

four-fits : (n : ℕ) (a b c d : Data) (span : Span) → span_in_four n a b c d ≡ Some span → IsFitting n span
four-fits n a b c d span is =
    let first = some-bind _ (whole_in a) span is in
    let count = some-bind _ (whole_in b) span first.2 in
    let word = some-bind _ (as_str c) span count.2 in
    let number = some-bind _ (whole_in d) span word.2 in
    with-fits n first.0 count.0 word.0 number.0 span number.2

items-fit : (n : ℕ) (ds : Items) (span : Span) → span_in_items n ds ≡ Some span → IsFitting n span
items-fit n no_items span is = absurd (cc)
items-fit n (item a no_items) span is = absurd (cc)
items-fit n (item a (item b no_items)) span is = absurd (cc)
items-fit n (item a (item b (item c no_items))) span is = absurd (cc)
items-fit n (item a (item b (item c (item d no_items)))) span is = four-fits n a b c d span is
items-fit n (item a (item b (item c (item d (item e ds))))) span is = absurd (cc)

pub span-fits : (n : ℕ) (d : Data) (span : Span) → span_in n d ≡ Some span → IsFitting n span
span-fits n null span is = absurd (cc)
span-fits n (boolean b) span is = absurd (cc)
span-fits n (number m) span is = absurd (cc)
span-fits n (string s) span is = absurd (cc)
span-fits n (array ds) span is = items-fit n ds span is
span-fits n (object ms) span is = absurd (cc)

-- ---- the next run

-- the run's ranks are the spec's, and what it says may stand in a book
pub record IsLawful (spec : Spec) (n : ℕ) (run : Run) : Type 0 where
  pub tag : IsTagOf n run.tag
  pub some : run.first < run.end
  pub few : run.end ≤ ranks spec
  pub led : IsLed spec run.first run.end run.tag

pub record IsLawfulNext (spec : Spec) (n : ℕ) (before : List Run) (facts : ℕ) (run : Run) : Type 0 where
  pub lawful : IsLawful spec n run
  pub past : IsPast before run
  pub few : facts + (run.end - run.first) ≤ MAX_FACTS

pub next-lawful : (spec : Spec) (n : ℕ) (before : List Run) (facts : ℕ) (d : Data) (run : Run) → IsNextRun spec n before facts d (Ok run)
    → IsLawfulNext spec n before facts run
next-lawful spec n before facts d run (inl (span, told, inl (few, inl (within, inl (led, inl (past, is)))))) =
    let same : run ≡ run_of span = cc in
    let fits = span-fits n d span told in
    let some = fits.1 in
    subst (IsLawfulNext spec n before facts) (sym same) (record {
      lawful = record { tag = fits.0; some = omega (arith, some); few = within; led = led };
      past = past;
      few = omega (arith, few);
    })
next-lawful spec n before facts d run (inl (span, told, inl (few, inl (within, inl (led, inr (not, is)))))) = absurd (cc)
next-lawful spec n before facts d run (inl (span, told, inl (few, inl (within, inr (not, is))))) = absurd (cc)
next-lawful spec n before facts d run (inl (span, told, inl (few, inr (not, is)))) = absurd (cc)
next-lawful spec n before facts d run (inl (span, told, inr (not, is))) = absurd (cc)
next-lawful spec n before facts d run (inr (none, is)) = absurd (cc)

pub next-plain : (spec : Spec) (n : ℕ) (before : List Run) (facts : ℕ) (d : Data) → IsPlain (IsNextRun spec n before facts d)
next-plain spec n before facts d e (inl (span, told, inl (few, inl (within, inl (led, inl (past, is)))))) = absurd (cc)
next-plain spec n before facts d e (inl (span, told, inl (few, inl (within, inl (led, inr (not, is)))))) = plain-refusal {X = Run} OutOfOrder (λ f. cc) e is
next-plain spec n before facts d e (inl (span, told, inl (few, inl (within, inr (not, is))))) = plain-refusal {X = Run} BadSwap (λ f. cc) e is
next-plain spec n before facts d e (inl (span, told, inl (few, inr (not, is)))) = plain-refusal {X = Run} BadRank (λ f. cc) e is
next-plain spec n before facts d e (inl (span, told, inr (not, is))) = plain-refusal {X = Run} TooLarge (λ f. cc) e is
next-plain spec n before facts d e (inr (none, is)) = plain-refusal {X = Run} BadField (λ f. cc) e is

-- ---- all runs

pub EachRun-push : (P : Run → Type 0) (runs : List Run) (run : Run) → EachRun P runs → P run → EachRun P (runs ++ run ∷ [])
EachRun-push P [] run each p = (p, tt)
EachRun-push P (x ∷ xs) run each p = (each.0, EachRun-push P xs run each.1 p)

ahead-first : (a b : Run) → ComesAhead a b → a.first ≤ b.first
ahead-first a b is = on (nat_cmp a.first b.first) refl is
  where
    on : (o : Ordering) → nat_cmp a.first b.first ≡ o
        → ordering_then o (ordering_then (nat_cmp (tag_kind a.tag) (tag_kind b.tag)) (nat_cmp (tag_number a.tag) (tag_number b.tag))) ≡ Less → a.first ≤ b.first
    on Less e f = let lt : a.first < b.first = ranked a.first b.first Less (sym e) in omega (arith, lt)
    on Equal e f = let same : a.first ≡ b.first = ranked a.first b.first Equal (sym e) in omega (arith, same)
    on Greater e f = absurd (cc)

-- no first rank is past that of the last run
abbrev EndsAtLast : List Run → Type 0
EndsAtLast runs = (l : Run) → last runs ≡ Some l → AllTo l.first (firsts runs)

record AreLawful (spec : Spec) (n : ℕ) (runs : List Run) : Type 0 where
  each : EachRun (IsLawful spec n) runs
  rising : IsRising (firsts runs)
  low : EndsAtLast runs

low-to : (runs : List Run) (run : Run) → EndsAtLast runs → StandsAfter ComesAhead runs run → AllTo run.first (firsts runs)
low-to runs run low after = on (last runs) refl
  where
    on : (o : Option Run) → last runs ≡ o → AllTo run.first (firsts runs)
    on None e = subst (λ rs. AllTo run.first (firsts rs)) (sym (last-none runs e)) tt
    on (Some l) e = AllTo-more l.first run.first (firsts runs) (ahead-first l run (after l e)) (low l e)

lawful-push : (spec : Spec) (n : ℕ) (runs : List Run) (facts : ℕ) (run : Run) → AreLawful spec n runs → IsLawfulNext spec n runs facts run
    → AreLawful spec n (runs ++ run ∷ [])
lawful-push spec n runs facts run are next =
    let to = low-to runs run are.low next.past.after in
    record {
      each = EachRun-push (IsLawful spec n) runs run are.each next.lawful;
      rising = subst IsRising (sym (firsts-push runs run)) (IsRising-push (firsts runs) run.first are.rising to);
      low = λ l e.
          let same : run ≡ l = (let f : Some run ≡ Some l = sym (last-push runs run) ∙ e in cc) in
          subst (AllTo l.first) (sym (firsts-push runs run))
          (AllTo-push l.first (firsts runs) run.first (subst (λ (r : Run). AllTo r.first (firsts runs)) same to) (subst (λ
          (r : Run). run.first ≤ r.first) same (omega arith)));
    }

runs-lawful : (spec : Spec) (n : ℕ) (before : List Run) (facts : ℕ) (ds : Items) (runs : List Run) → AreLawful spec n before
    → AreRuns spec n before facts ds (Ok runs) → AreLawful spec n runs
runs-lawful spec n before facts no_items runs are is = let same : runs ≡ before = cc in subst (AreLawful spec n) (sym same) are
runs-lawful spec n before facts (item d ds) runs are (inl (run, next, rest)) =
    runs-lawful spec n (before ++ run ∷ []) (facts + (run.end - run.first)) ds runs
    (lawful-push spec n before facts run are (next-lawful spec n before facts d run next)) rest
runs-lawful spec n before facts (item d ds) runs are (inr (e, refused, is)) = absurd (cc)

none-lawful : (spec : Spec) (n : ℕ) → AreLawful spec n []
none-lawful spec n = record { each = tt; rising = tt; low = λ l e. tt }

of-lawful : (spec : Spec) (n : ℕ) (ds : Items) (runs : List Run) → AreRunsOf spec n ds (Ok runs) → AreLawful spec n runs
of-lawful spec n ds runs (inl (all, are, inl (named, is))) =
    let same : runs ≡ all = cc in subst (AreLawful spec n) (sym same) (runs-lawful spec n [] 0 ds all (none-lawful spec n) are)
of-lawful spec n ds runs (inl (all, are, inr (not, is))) = absurd (cc)
of-lawful spec n ds runs (inr (e, refused, is)) = absurd (cc)

each-sound : (spec : Spec) (n : ℕ) (runs : List Run) → EachRun (IsLawful spec n) runs → AllSound n runs
each-sound spec n [] each = tt
each-sound spec n (run ∷ runs) each = ((on run.tag each.0.tag, each.0.some), each-sound spec n runs each.1)
  where
    on : (g : Tag) → IsTagOf n g → IsNumbered n g
    on (Ran m) lt = lt
    on (Swap k) lt = tt

-- what a lawful run says may stand in a book, where the outcomes may be told
run-recordable : (spec : Spec) (table : Table) (run : Run) → All (IsToldBy spec) table → IsLawful spec (length table) run → IsRecordableRun spec table run
run-recordable spec table run told is r low lt = on run.tag is.tag is.led
  where
    below : r < ranks spec
    below = let few = is.few in omega (arith, lt, few)

    on : (g : Tag) → IsTagOf (length table) g → IsLed spec run.first run.end g → IsRecordable spec r (fact_in table g)
    on (Ran m) known led = let p = told m [] known in (below, p.0, p.1)
    on (Swap k) known led = (below, known, led r low lt)

each-recordable : (spec : Spec) (table : Table) (runs : List Run) → All (IsToldBy spec) table → EachRun (IsLawful spec (length table)) runs
    → EachRun (IsRecordableRun spec table) runs
each-recordable spec table [] told each = tt
each-recordable spec table (run ∷ runs) told each = (run-recordable spec table run told each.0, each-recordable spec table runs told each.1)

module _ (spec : Spec) (table : Table) (ds : Items) (runs : List Run) (are : AreRunsOf spec (length table) ds (Ok runs)) where
  pub read-rising : IsRising (firsts runs)
  read-rising = (of-lawful spec (length table) ds runs are).rising

  pub read-sound : AllSound (length table) runs
  read-sound = each-sound spec (length table) runs (of-lawful spec (length table) ds runs are).each

  pub read-recordable : All (IsToldBy spec) table → EachRun (IsRecordableRun spec table) runs
  read-recordable told = each-recordable spec table runs told (of-lawful spec (length table) ds runs are).each

runs-plain : (spec : Spec) (n : ℕ) (before : List Run) (facts : ℕ) (ds : Items) → IsPlain (AreRuns spec n before facts ds)
runs-plain spec n before facts no_items = plain-gives before
runs-plain spec n before facts (item d ds) =
    plain-then (IsNextRun spec n before facts d) (λ run. AreRuns spec n (before ++ run ∷ []) (facts + (run.end - run.first)) ds)
    (next-plain spec n before facts d)
    (λ run. runs-plain spec n (before ++ run ∷ []) (facts + (run.end - run.first)) ds)

pub of-plain : (spec : Spec) (n : ℕ) (ds : Items) → IsPlain (AreRunsOf spec n ds)
of-plain spec n ds =
    plain-then (AreRuns spec n [] 0 ds) (λ runs. Unless (AllNamed n runs) BadField (Gives runs)) (runs-plain spec n [] 0 ds)
    (λ runs. plain-unless (AllNamed n runs) BadField (Gives runs) (λ e. cc) (plain-gives runs))
