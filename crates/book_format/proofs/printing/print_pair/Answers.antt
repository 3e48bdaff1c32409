use Rattle.transcripts.proofs.Writing.{prints-after}
use Rattle.book_format.proofs.printing.print_pair.Goals as goal

-- the text follows what stands before it
pub returns : goal.returns
returns g c = prints-after _ _ _ _ _ _ _ c.in_ok-write_str.ensures c.write_str-2.ensures
