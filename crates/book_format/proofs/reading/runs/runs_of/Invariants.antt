use Rattle.std.proofs.Common.{drop}
use Rattle.serde_json.specs.View.{items_view}
use Rattle.book_format.specs.ReadingRuns.{IsReadingRuns}
use Rattle.book_format.proofs.reading.runs.runs_of.Given as goal

abbrev pub invariant-loop-value : goal.invariant-loop-value
invariant-loop-value l =
    IsReadingRuns l.spec.run l.outcomes (items_view l.values) (items_view (drop l.value-index l.values)) l.runs.items l.facts l.ends
