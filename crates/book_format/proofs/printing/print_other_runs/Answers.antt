use Rattle.std.proofs.Common.{refl}
use Rattle.std.specs.Prelude.{[], codes}
use Rattle.fact_books.specs.declared.run.Tag.TheVariants.{Ran}
use Rattle.compact_outcomes.specs.CompactTexts.{after_comma}
use Rattle.book_format.specs.Pieces.{run_text}
use Rattle.transcripts.proofs.Writing.{prints-stopped, stopped-after, stopped-append, stopped-next_of}
use Rattle.book_format.proofs.printing.print_other_runs.Goals as goal

-- a comma
pub returns-in_err-write_str : goal.returns-in_err-write_str
returns-in_err-write_str g c =
    prints-stopped _ _ _ _ _
    (stopped-next_of _ (after_comma run_text) _ _ _ [] c.args.runs.now c.loop-run.run-index _ (record {
      first = 0;
      end = 0;
      tag = Ran 0;
    }) c.loop-run-test.true refl c.loop-run.invariant
    (stopped-append _ _ _ (codes ",") _ c.in_err-write_str.ensures))
    c.from_residual.ensures.0

-- a run
pub returns-in_err-print_run : goal.returns-in_err-print_run
returns-in_err-print_run g c =
    prints-stopped _ _ _ _ _
    (stopped-next_of _ (after_comma run_text) _ _ _ [] c.args.runs.now c.loop-run.run-index _ _ c.loop-run-test.true refl c.loop-run.invariant
    (stopped-after _ _ _ _ (codes ",") _ c.in_ok-write_str.ensures c.in_err-print_run.ensures))
    c.from_residual-in_err-print_run.ensures.0
