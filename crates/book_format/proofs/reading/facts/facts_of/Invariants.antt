use Rattle.std.proofs.Common.{List, drop, []}
use Rattle.serde_json.specs.View.{items_view}
use Rattle.fact_books.specs.Entries.{Entry}
use Rattle.book_format.specs.Reading.{Read}
use Rattle.book_format.specs.ReadingFacts.{AreEntries, entries_of}
use Rattle.book_format.proofs.reading.facts.facts_of.Given as goal

-- what is still to be read goes on from what was read
abbrev pub invariant-loop-value : goal.invariant-loop-value
invariant-loop-value l =
    (r : Read (List Entry)) → AreEntries l.spec.run (entries_of l.facts.items) (items_view (drop l.value-index l.values)) r
    → AreEntries l.spec.run [] (items_view l.values) r
