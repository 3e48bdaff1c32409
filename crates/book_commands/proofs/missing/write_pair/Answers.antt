use Rattle.std.proofs.Common.{◌++◌, decimal}
use Rattle.transcripts.proofs.Writing.{prints-after, prints-stopped, stopped-append}
use Rattle.transcripts.specs.Lines.{number_line}
use Rattle.book_commands.proofs.missing.write_pair.Goals as goal

-- the first number is not written
pub returns-in_err-write_before : goal.returns-in_err-write_before
returns-in_err-write_before g c = prints-stopped _ _ _ _ _ (stopped-append _ _ _ _ _ c.in_err-write_before.ensures) c.from_residual.ensures.0

-- it is, and then the last one or a front of it
pub returns : goal.returns
returns g c =
    prints-after g.W.Write.contents c.args.out.now c.write_before.new.out c.write_number.new.out c.write_number.result
    (decimal c.args.first ++ c.args.between.now) (number_line c.args.last) c.in_ok-write_before.ensures c.write_number.ensures
