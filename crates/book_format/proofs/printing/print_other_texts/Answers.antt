use Rattle.std.specs.Prelude.{[], codes}
use Rattle.compact_outcomes.specs.CompactTexts.{after_comma}
use Rattle.book_format.specs.Pieces.{told_text}
use Rattle.transcripts.proofs.Writing.{prints-stopped, stopped-after, stopped-append, stopped-next_of}
use Rattle.book_format.proofs.printing.print_other_texts.Goals as goal

-- a comma
pub returns-in_err-write_str : goal.returns-in_err-write_str
returns-in_err-write_str g c =
    prints-stopped _ _ _ _ _
    (stopped-next_of _ (after_comma told_text) _ _ _ [] _ _ _ _ c.loop-outcome-test.true c.outcome-item.is c.loop-outcome.invariant
    (stopped-append _ _ _ (codes ",") _ c.in_err-write_str.ensures))
    c.from_residual.ensures.0

-- a text
pub returns-in_err-print_text : goal.returns-in_err-print_text
returns-in_err-print_text g c =
    prints-stopped _ _ _ _ _
    (stopped-next_of _ (after_comma told_text) _ _ _ [] _ _ _ _ c.loop-outcome-test.true c.outcome-item.is c.loop-outcome.invariant
    (stopped-after _ _ _ _ (codes ",") _ c.in_ok-write_str.ensures c.in_err-print_text.ensures))
    c.from_residual-in_err-print_text.ensures.0
