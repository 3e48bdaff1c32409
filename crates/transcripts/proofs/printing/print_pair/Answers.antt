use Rattle.transcripts.proofs.Writing.{prints-after}
use Rattle.transcripts.proofs.printing.print_pair.Goals as goal

-- the second part follows the first
pub returns : goal.returns
returns g c = prints-after _ _ _ _ _ _ _ c.in_ok-write_str.ensures c.write_str-2.ensures
