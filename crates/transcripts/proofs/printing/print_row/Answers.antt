use Rattle.std.specs.Prelude.{codes}
use Rattle.std.specs.List.{join_by}
use Rattle.transcripts.specs.Text.{value_text}
use Rattle.transcripts.proofs.Writing.{prints-after, prints-stopped, stopped-append}
use Rattle.transcripts.proofs.printing.print_row.Goals as goal

-- the word
pub returns-in_err-write_str : goal.returns-in_err-write_str
returns-in_err-write_str g c =
    prints-stopped _ _ _ _ _ (stopped-append _ _ _ (codes "row ") (join_by value_text (codes "|") c.args.values.now) c.in_err-write_str.ensures)
    c.from_residual.ensures.0

-- the values
pub returns : goal.returns
returns g c = prints-after _ _ _ _ _ (codes "row ") (join_by value_text (codes "|") c.args.values.now) c.in_ok-write_str.ensures c.print_values.ensures
