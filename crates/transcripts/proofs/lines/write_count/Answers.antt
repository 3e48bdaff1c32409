use Rattle.transcripts.proofs.Writing.{prints-after}
use Rattle.transcripts.specs.Lines.{number_line}
use Rattle.transcripts.proofs.lines.write_count.Goals as goal

pub returns : goal.returns
returns g c =
    prints-after g.W.Write.contents c.args.out.now _ c.write_number.new.out c.write_number.result c.args.word.now (number_line c.args.number)
    c.in_ok-write_str.ensures c.write_number.ensures
