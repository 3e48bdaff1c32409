use Rattle.std.proofs.Common.{◌≡◌, min, take, length}
use Rattle.std.specs.Prelude.{flat_map}
use Rattle.compact_outcomes.specs.CompactTexts.{after_comma}
use Rattle.book_format.specs.Pieces.{told_text}
use Rattle.book_format.proofs.lengths.other_outcomes_len.Given as goal

-- the length of the first texts
abbrev pub invariant-loop-outcome : goal.invariant-loop-outcome
invariant-loop-outcome l = l.len ≡ min (length (flat_map (after_comma told_text) (take l.outcome-index l.outcomes))) 18446744073709551615
