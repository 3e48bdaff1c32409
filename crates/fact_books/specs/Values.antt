-- What a set of facts reports: the one value of each rank, or the least rank that has none or several.
use Rattle.std.specs.Prelude.{◌≡◌, ℕ, ◌<◌, ◌≤◌, List, [], Option, Some, Result, Ok, Err, length, slice_index_or, All}
use Rattle.bound_specs.specs.Spec.{line_of, ranks}
use Rattle.machine_model.specs.Outcome.{outcome_of_line}
use Rattle.rank_facts.specs.Swap.{leads_in}
use Rattle.rank_facts.specs.Values.{IsValue}
use Rattle.fact_books.specs.declared.error.ReportError.{ReportError}
use Rattle.fact_books.specs.declared.error.ReportError.TheVariants as report_error
use Rattle.fact_books.specs.declared.error.TheConstants.{MAX_REPORTED}
use Rattle.fact_books.specs.Entries.{Told, FactSet, recorded}
use Rattle.fact_books.specs.Books.{Contents, HasFact}

-- where exchanges lead: from a rank, by the letters at a place of its word, to another rank
abbrev pub Leads : Type 0
Leads = ℕ → ℕ → Option ℕ

-- the rank has this value and no other
pub record HasOne (facts : FactSet) (leads : Leads) (r : ℕ) (o : Told) : Type 0 where
  pub value : IsValue (recorded facts) leads r o
  pub only : (p : Told) → IsValue (recorded facts) leads r p → p ≡ o

-- each rank before this one has exactly one value
abbrev pub OneBelow : FactSet → Leads → ℕ → Type 0
OneBelow facts leads n = (r : ℕ) → r < n → (o : Told) × HasOne facts leads r o

-- these are the values of so many ranks, each of which has no other
pub record AreValues (facts : FactSet) (leads : Leads) (count : ℕ) (values : List Told) : Type 0 where
  pub count_is : length values ≡ count
  pub each : (r : ℕ) → r < count → HasOne facts leads r (slice_index_or values r [])

-- each outcome has so few sessions that their numbers fit a byte
abbrev pub HasFewSessions : List Told → Type 0
HasFewSessions report = All (λ told. length told < 256) report

-- this is the least of so many ranks that has not exactly one value, and it has none
pub record IsMissing (facts : FactSet) (leads : Leads) (count r : ℕ) : Type 0 where
  pub inside : r < count
  pub below : OneBelow facts leads r
  pub none : (o : Told) → IsValue (recorded facts) leads r o → ⊥

-- this is the least of so many ranks that has not exactly one value, and it has more than one
pub record IsClash (facts : FactSet) (leads : Leads) (count r : ℕ) : Type 0 where
  pub inside : r < count
  pub below : OneBelow facts leads r
  pub two : (o : Told) × (p : Told) × IsValue (recorded facts) leads r o × IsValue (recorded facts) leads r p × (o ≡ p → ⊥)

-- why a book has no report
abbrev pub IsNotReported : Contents → ReportError → Type 0
IsNotReported book report_error.TooMany = MAX_REPORTED < ranks book.file.run
IsNotReported book (report_error.Missing r) = (ranks book.file.run ≤ MAX_REPORTED) × IsMissing book.facts (leads_in book.file.run) (ranks book.file.run) r
IsNotReported book (report_error.Clash r) = (ranks book.file.run ≤ MAX_REPORTED) × IsClash book.facts (leads_in book.file.run) (ranks book.file.run) r
IsNotReported book report_error.NoMemory = ranks book.file.run ≤ MAX_REPORTED

-- what a book of true facts is reported as: each rank's value is the outcome that the sequential machine gives it; never a clash; and a rank is
-- missing only where some rank has no fact
abbrev pub IsCovering : Contents → Result (List Told) ReportError → Type 0
IsCovering book (Ok report) = (r : ℕ) → r < ranks book.file.run → outcome_of_line book.file.run (line_of book.file.run r) ≡ Some (slice_index_or report r [])
IsCovering book (Err (report_error.Clash r)) = ⊥
IsCovering book (Err (report_error.Missing r)) = (m : ℕ) × (m < ranks book.file.run) × (HasFact book.facts m → ⊥)
IsCovering book (Err report_error.TooMany) = Unit {0}
IsCovering book (Err report_error.NoMemory) = Unit {0}
