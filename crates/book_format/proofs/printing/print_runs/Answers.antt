use Rattle.std.specs.Prelude.{flat_map}
use Rattle.compact_outcomes.specs.CompactTexts.{after_comma}
use Rattle.book_format.specs.Pieces.{run_text}
use Rattle.transcripts.proofs.Writing.{prints-after, prints-stopped, stopped-append}
use Rattle.book_format.proofs.printing.print_runs.Goals as goal

-- the first run, and then the others
pub returns-in_ok-print_run-in-Some : goal.returns-in_ok-print_run-in-Some
returns-in_ok-print_run-in-Some g c =
    rw c.in-Some.ensures.cases.0
    (prints-after _ _ _ _ _ (run_text c.in-Some.first.now) (flat_map (after_comma run_text) c.in-Some.others.now) c.in_ok-print_run-in-Some.ensures
    c.print_other_runs.ensures)

-- the first run stopped
pub returns-in_err-print_run-in-Some : goal.returns-in_err-print_run-in-Some
returns-in_err-print_run-in-Some g c =
    rw c.in-Some.ensures.cases.0
    (prints-stopped _ _ _ _ _ (stopped-append _ _ _ (run_text c.in-Some.first.now) (flat_map
    (after_comma run_text) c.in-Some.others.now) c.in_err-print_run-in-Some.ensures)
    c.from_residual.ensures.0)
