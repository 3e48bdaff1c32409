use Rattle.std.specs.Prelude.{flat_map}
use Rattle.transcripts.specs.Text.{barred, value_text}
use Rattle.transcripts.proofs.Writing.{prints-after}
use Rattle.transcripts.proofs.printing.print_values.Goals as goal

-- the first value, and then the others
pub returns-in_ok-print_value-in-Some : goal.returns-in_ok-print_value-in-Some
returns-in_ok-print_value-in-Some g c =
    rw c.in-Some.ensures.cases.0
    (prints-after _ _ _ _ _ (value_text c.in-Some.first.now) (flat_map barred c.in-Some.others.now) c.in_ok-print_value-in-Some.ensures c.print_others.ensures)
