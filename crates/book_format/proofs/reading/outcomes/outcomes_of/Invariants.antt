use Rattle.std.proofs.Common.{drop, []}
use Rattle.serde_json.specs.View.{items_view}
use Rattle.fact_books.specs.Runs.{Table}
use Rattle.book_format.specs.Reading.{Read, AreOutcomes}
use Rattle.book_format.proofs.reading.outcomes.outcomes_of.Given as goal

-- what is still to be read goes on from what was read
abbrev pub invariant-loop-value : goal.invariant-loop-value
invariant-loop-value l =
    (r : Read Table) → AreOutcomes l.spec.run l.outcomes (items_view (drop l.value-index l.values)) r → AreOutcomes l.spec.run [] (items_view l.values) r
