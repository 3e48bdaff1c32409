-- What JSON values are as the runs of a book.
use Rattle.std.specs.Prelude.{◌≡◌, ℕ, ◌+◌, ◌-◌, ◌<◌, ◌≤◌, ◌⊎◌, nat_lt, cond, List, [], ◌∷◌, ◌++◌, length, codes, bytes_eq, Option, Some, None}
use Rattle.std.specs.Prelude.{option_and_then, slice_index}
use Rattle.std.specs.declared.cmp.Ordering.TheVariants.{Less}
use Rattle.serde_json.specs.Data.{Data, null, boolean, number, string, array, object, Items, no_items, item}
use Rattle.serde_json.specs.Find.{as_str}
use Rattle.bound_specs.specs.Spec.{Spec, ranks}
use Rattle.rank_facts.specs.Swap.{leads_in}
use Rattle.fact_books.specs.declared.run.Run.{Run}
use Rattle.fact_books.specs.declared.run.Tag.{Tag}
use Rattle.fact_books.specs.declared.run.Tag.TheVariants.{Ran, Swap}
use Rattle.fact_books.specs.Recording.{LeadsAlong, EachRun}
use Rattle.fact_books.specs.Sweep.{IsIn}
use Rattle.book_format.specs.declared.error.BookError.TheVariants.{BadField, BadRank, OutOfOrder, BadSwap, TooLarge}
use Rattle.book_format.specs.declared.reading.runs.Span.{Span}
use Rattle.book_format.specs.declared.reading.runs.Ends.{Ends}
use Rattle.book_format.specs.declared.pieces.TheConstants.{MAX_FACTS}
use Rattle.book_format.specs.Forms.{run_cmp, IsNamed}
use Rattle.book_format.specs.Reading.{Read, Unless, Given, Then, Gives, whole_in, StandsAfter}

-- what is said of each rank, of so many outcomes
abbrev pub tag_in : ℕ → List ℕ → ℕ → Option Tag
tag_in outcomes word n =
    cond (bytes_eq word (codes "ran")) (cond (nat_lt n outcomes) (Some (Ran n)) None)
    (cond (bytes_eq word (codes "swap")) (cond (nat_lt n 256) (Some (Swap n)) None) None)

abbrev pub span_with : ℕ → ℕ → Option Tag → Option Span
span_with first count None = None
span_with first count (Some tag) = cond (nat_lt 0 count) (Some (record { first = first; count = count; tag = tag })) None

-- the first rank, a count that is not 0, a word, and a number
abbrev pub span_in_four : ℕ → Data → Data → Data → Data → Option Span
span_in_four outcomes a b c d =
    option_and_then (λ first. option_and_then (λ count. option_and_then (λ word. option_and_then (λ n.
    span_with first count (tag_in outcomes word n)) (whole_in d)) (as_str c)) (whole_in b)) (whole_in a)

abbrev pub span_in_items : ℕ → Items → Option Span
span_in_items outcomes (item a (item b (item c (item d no_items)))) = span_in_four outcomes a b c d
span_in_items outcomes ds = None

abbrev pub span_in : ℕ → Data → Option Span
span_in outcomes null = None
span_in outcomes (boolean b) = None
span_in outcomes (number n) = None
span_in outcomes (string s) = None
span_in outcomes (array ds) = span_in_items outcomes ds
span_in outcomes (object ms) = None

abbrev pub run_of : Span → Run
run_of span = record { first = span.first; end = span.first + span.count; tag = span.tag }

-- where a run says a swap, it leads to a rank from each of the run's ranks
abbrev pub IsLed : Spec → ℕ → ℕ → Tag → Type 0
IsLed spec first end (Ran n) = Unit {0}
IsLed spec first end (Swap k) = LeadsAlong (leads_in spec) k first end

abbrev pub ComesAhead : Run → Run → Type 0
ComesAhead a b = run_cmp a b ≡ Less

-- the run neither overlaps nor touches one of those that say the same
abbrev pub IsApart : List Run → Run → Type 0
IsApart before run = EachRun (λ earlier. earlier.tag ≡ run.tag → earlier.end < run.first) before

-- the run stands after the last one, and apart from those that say the same
pub record IsPast (before : List Run) (run : Run) : Type 0 where
  pub after : StandsAfter ComesAhead before run
  pub apart : IsApart before run

-- the next run, behind others that have so many facts
abbrev pub IsNextRun : Spec → ℕ → List Run → ℕ → Data → Read Run → Type 0
IsNextRun spec outcomes before facts d =
    Given BadField (λ span. span_in outcomes d ≡ Some span) (λ span.
    Unless (facts + span.count ≤ MAX_FACTS) TooLarge
    (Unless (span.first + span.count ≤ ranks spec) BadRank
    (Unless (IsLed spec span.first (span.first + span.count) span.tag) BadSwap
    (Unless (IsPast before (run_of span)) OutOfOrder
    (Gives (run_of span))))))

-- runs behind those that are read, which have so many facts
abbrev pub AreRuns : Spec → ℕ → List Run → ℕ → Items → Read (List Run) → Type 0
AreRuns spec outcomes before facts no_items = Gives before
AreRuns spec outcomes before facts (item d ds) =
    Then (IsNextRun spec outcomes before facts d) (λ run. AreRuns spec outcomes (before ++ run ∷ []) (facts + (run.end - run.first)) ds)

-- each of so many outcomes is named by a run
abbrev pub AllNamed : ℕ → List Run → Type 0
AllNamed outcomes runs = (n : ℕ) → n < outcomes → IsNamed n runs

-- the runs of a book with so many outcomes
abbrev pub AreRunsOf : Spec → ℕ → Items → Read (List Run) → Type 0
AreRunsOf spec outcomes ds = Then (AreRuns spec outcomes [] 0 ds) (λ runs. Unless (AllNamed outcomes runs) BadField (Gives runs))

-- ---- what is kept while runs are read

-- the end of the last run that says this, 0 where none does
pub record IsEnd (end : ℕ) (tag : Tag) (runs : List Run) : Type 0 where
  pub most : EachRun (λ run. run.tag ≡ tag → (0 < run.end) × (run.end ≤ end)) runs
  pub some : (end ≡ 0) ⊎ ((run : Run) × IsIn run runs × (run.tag ≡ tag) × (end ≡ run.end))

pub record AreEnds (outcomes : ℕ) (ends : Ends) (runs : List Run) : Type 0 where
  pub outcomes_are : length ends.ran.items ≡ outcomes
  pub places_are : length ends.swap.items ≡ 256
  pub ran : (n : ℕ) → n < outcomes → IsEnd (slice_index ends.ran.items n) (Ran n) runs
  pub swap : (k : ℕ) → k < 256 → IsEnd (slice_index ends.swap.items k) (Swap k) runs

abbrev pub end_at : Ends → Tag → ℕ
end_at ends (Ran n) = slice_index ends.ran.items n
end_at ends (Swap k) = slice_index ends.swap.items k

-- one of so many outcomes, or a place that is a byte
abbrev pub IsTagOf : ℕ → Tag → Type 0
IsTagOf outcomes (Ran n) = n < outcomes
IsTagOf outcomes (Swap k) = k < 256

-- so many values are read, and what is still to be read goes on from these runs
pub record IsReadingRuns (spec : Spec) (outcomes : ℕ) (all rest : Items) (runs : List Run) (facts : ℕ) (ends : Ends) : Type 0 where
  pub few : facts ≤ MAX_FACTS
  pub ends_are : AreEnds outcomes ends runs
  pub reads : (r : Read (List Run)) → AreRuns spec outcomes runs facts rest r → AreRuns spec outcomes [] 0 all r
