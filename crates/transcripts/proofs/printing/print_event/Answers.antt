use Rattle.std.specs.Prelude.{◌++◌, codes}
use Rattle.transcripts.specs.Text.{event_text}
use Rattle.transcripts.proofs.Writing.{prints-after, prints-stopped, stopped-after, stopped-append, wrote-append}
use Rattle.transcripts.proofs.printing.print_event.Goals as goal

-- the words
pub returns-in_err-print_words : goal.returns-in_err-print_words
returns-in_err-print_words g c =
    let words = event_text c.args.steps.now c.args.event.now in
    prints-stopped _ _ _ _ _
    (stopped-append _ _ _ (codes "  " ++ words) (codes "\n") (stopped-after _ _ _ _ (codes "  ") words c.in_ok-write_str.ensures c.in_err-print_words.ensures))
    c.from_residual-in_err-print_words.ensures.0

-- the line's end
pub returns : goal.returns
returns g c =
    let words = event_text c.args.steps.now c.args.event.now in
    prints-after _ _ _ _ _ (codes "  " ++ words) (codes "\n") (wrote-append _ _ _ _ (codes "  ") words c.in_ok-write_str.ensures c.in_ok-print_words.ensures)
    c.write_str-2.ensures
