use Rattle.std.specs.Prelude.{◌++◌, codes}
use Rattle.transcripts.proofs.Writing.{prints-after, prints-stopped, stopped-append}
use Rattle.book_format.proofs.printing.print_spec.Goals as goal

pub returns-in_err-print_pair : goal.returns-in_err-print_pair
returns-in_err-print_pair g c =
    prints-stopped _ _ _ _ _ (stopped-append _ _ _ (codes "],\"spec\":" ++ c.args.quoted.now)
    (codes "}\n") c.in_err-print_pair.ensures) c.from_residual.ensures.0

-- the end
pub returns : goal.returns
returns g c = prints-after _ _ _ _ _ (codes "],\"spec\":" ++ c.args.quoted.now) (codes "}\n") c.in_ok-print_pair.ensures c.write_str.ensures
