use Rattle.std.specs.Prelude.{codes}
use Rattle.std.specs.List.{join_by}
use Rattle.transcripts.proofs.Writing.{prints-after, prints-stopped, stopped-append}
use Rattle.book_format.specs.Pieces.{told_text}
use Rattle.book_format.proofs.printing.print_outcomes.Goals as goal

pub returns-in_err-write_str : goal.returns-in_err-write_str
returns-in_err-write_str g c =
    prints-stopped _ _ _ _ _ (stopped-append _ _ _ (codes "],\"format\":2,\"outcomes\":[") (join_by told_text
    (codes ",") c.args.outcomes.now) c.in_err-write_str.ensures)
    c.from_residual.ensures.0

pub returns : goal.returns
returns g c =
    prints-after _ _ _ _ _ (codes "],\"format\":2,\"outcomes\":[") (join_by told_text
    (codes ",") c.args.outcomes.now) c.in_ok-write_str.ensures c.print_texts.ensures
