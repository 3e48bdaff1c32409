-- The laws of what is run, joined and reported.
use Rattle.std.specs.Prelude.{◌≡◌, ℕ, zero, suc, ◌++◌, Bool, List, [], Some}
use Rattle.std.specs.FinSet.{union}
use Rattle.bound_specs.specs.Spec.{Spec, SpecFile, ranks, line_of}
use Rattle.bound_specs.specs.Binding.{IsFileOf}
use Rattle.machine_model.specs.Outcome.{outcome_of_line}
use Rattle.serial_history.specs.Serial.{IsSerial}
use Rattle.events.specs.declared.event.Event.{Event}
use Rattle.rank_facts.specs.Values.{AllTrue, CoverEachRank}
use Rattle.fact_books.specs.declared.error.ReportError.TheVariants.{Missing, Clash}
use Rattle.fact_books.specs.Entries.{FactSet, recorded}
use Rattle.fact_books.specs.Books.{Contents}
use Rattle.fact_books.specs.Building.{AreFactsOf}
use Rattle.fact_books.specs.Values.{IsNotReported}
use Rattle.spec_commands.specs.One.{IsAnswer}
use Rattle.book_commands.specs.Reporting.{IsReportText}

-- the text is what the sequential machine tells of the first ranks in order
abbrev pub AreAnswers : SpecFile → ℕ → List ℕ → Type 0
AreAnswers file zero text = text ≡ []
AreAnswers file (suc n) text = (before answer : List ℕ) × AreAnswers file n before × IsAnswer file n answer × (text ≡ before ++ answer)

-- whatever the sequential machine tells of a rank, the transactions that are committed there behave as when they are run one after another in the order
-- of their commits
abbrev pub AreSerial : Spec → Type 0
AreSerial spec = (r : ℕ) (outcome : List (List Event)) → outcome_of_line spec (line_of spec r) ≡ Some outcome → IsSerial spec (line_of spec r) outcome

-- the facts of a range are true
abbrev pub RangesAreTrue : Type 0
RangesAreTrue = (spec : Spec) (reduce : Bool) (first end : ℕ) (facts : FactSet) → AreFactsOf reduce spec first end facts → AllTrue spec (recorded facts)

-- true facts joined are true
abbrev pub JoinsStayTrue : Type 0
JoinsStayTrue = (spec : Spec) (a b : FactSet) → AllTrue spec (recorded a) → AllTrue spec (recorded b) → AllTrue spec (recorded (union a b))

-- what is reported of true facts is what the sequential machine tells of each rank
abbrev pub ReportsAreTheMachines : Type 0
ReportsAreTheMachines = (book : Contents) (text : List ℕ) → IsFileOf book.file.text book.file → AllTrue book.file.run (recorded book.facts)
    → IsReportText book text → AreAnswers book.file (ranks book.file.run) text

-- of true facts nothing clashes, and nothing is missing where each rank has one
abbrev pub CoveringReports : Type 0
CoveringReports = (book : Contents) (r : ℕ) → IsFileOf book.file.text book.file → AllTrue book.file.run (recorded book.facts)
    → (IsNotReported book (Clash r) → ⊥) × (CoverEachRank book.file.run (recorded book.facts) → IsNotReported book (Missing r) → ⊥)

-- the outcomes of a spec that its text binds to are serial
abbrev pub OutcomesAreSerial : Type 0
OutcomesAreSerial = (file : SpecFile) → IsFileOf file.text file → AreSerial file.run
