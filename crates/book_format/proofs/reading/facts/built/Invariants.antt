use Rattle.std.proofs.Common.{◌≡◌, ◌<◌, ◌≤◌, take, get_or, length}
use Rattle.std.specs.FinSet.{from_list}
use Rattle.book_format.specs.declared.reading.facts.RankFact.{RankFact}
use Rattle.book_format.specs.ReadingFacts.{entries_of}
use Rattle.book_format.proofs.reading.facts.built.Given as goal

-- the facts so far, none of a later rank than the next one
abbrev pub invariant-loop-fact : goal.invariant-loop-fact
invariant-loop-fact l =
    (l.builder.facts ≡ from_list (entries_of (take l.fact-index l.facts)))
    × ((d : RankFact) → l.fact-index < length l.facts → l.builder.next ≤ (get_or l.facts l.fact-index d).rank)
