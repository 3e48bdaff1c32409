-- What the next value of a text is as the outcomes, the runs or the facts of a book.
use Rattle.std.specs.Prelude.{◌≡◌, ℕ, List, [], Ok}
use Rattle.std.specs.FinSet.{from_list}
use Rattle.json.specs.Token.{Token}
use Rattle.serde_json.specs.Data.{Items, array}
use Rattle.bound_specs.specs.Spec.{Spec}
use Rattle.fact_books.specs.declared.run.Run.{Run}
use Rattle.fact_books.specs.Entries.{Entry, FactSet}
use Rattle.fact_books.specs.Runs.{Table}
use Rattle.book_format.specs.Reading.{AreOutcomes}
use Rattle.book_format.specs.ReadingFacts.{AreEntries}
use Rattle.book_format.specs.ReadingRuns.{AreRunsOf}
use Rattle.book_format.specs.Tokens.{IsValueAt, member_depth}

-- an array of outcomes is next
abbrev pub AreOutcomesAt : Spec → List Token → Table → List Token → Type 0
AreOutcomesAt spec ts table left = (ds : Items) × IsValueAt member_depth ts (array ds) left × AreOutcomes spec [] ds (Ok table)

-- an array of runs is next, of so many outcomes
abbrev pub AreRunsAt : Spec → ℕ → List Token → List Run → List Token → Type 0
AreRunsAt spec outcomes ts runs left = (ds : Items) × IsValueAt member_depth ts (array ds) left × AreRunsOf spec outcomes ds (Ok runs)

-- an array of facts one by one is next
abbrev pub AreFactsAt : Spec → List Token → FactSet → List Token → Type 0
AreFactsAt spec ts facts left =
    (ds : Items) × (entries : List Entry) × IsValueAt member_depth ts (array ds) left × AreEntries spec [] ds (Ok entries) × (facts ≡ from_list entries)
