use Rattle.std.specs.Prelude.{flat_map, take}
use Rattle.transcripts.specs.Counted.{Wrote}
use Rattle.compact_outcomes.specs.CompactTexts.{after_comma}
use Rattle.book_format.specs.Pieces.{told_text}
use Rattle.book_format.proofs.printing.print_other_texts.Given as goal

-- the first texts are written
abbrev pub invariant-loop-outcome : goal.invariant-loop-outcome
invariant-loop-outcome g l = Wrote g.W.Write.contents l.fn.out l.out (flat_map (after_comma told_text) (take l.outcome-index l.outcomes))
