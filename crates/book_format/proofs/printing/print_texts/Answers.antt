use Rattle.std.specs.Prelude.{flat_map}
use Rattle.compact_outcomes.specs.CompactTexts.{after_comma}
use Rattle.book_format.specs.Pieces.{told_text}
use Rattle.transcripts.proofs.Writing.{prints-after, prints-stopped, stopped-append}
use Rattle.book_format.proofs.printing.print_texts.Goals as goal

-- the first text, and then the others
pub returns-in_ok-print_text-in-Some : goal.returns-in_ok-print_text-in-Some
returns-in_ok-print_text-in-Some g c =
    rw c.in-Some.ensures.cases.0
    (prints-after _ _ _ _ _ (told_text c.in-Some.first.now) (flat_map (after_comma told_text) c.in-Some.others.now) c.in_ok-print_text-in-Some.ensures
    c.print_other_texts.ensures)

-- the first text stopped
pub returns-in_err-print_text-in-Some : goal.returns-in_err-print_text-in-Some
returns-in_err-print_text-in-Some g c =
    rw c.in-Some.ensures.cases.0
    (prints-stopped _ _ _ _ _ (stopped-append _ _ _ (told_text c.in-Some.first.now) (flat_map
    (after_comma told_text) c.in-Some.others.now) c.in_err-print_text-in-Some.ensures)
    c.from_residual.ensures.0)
