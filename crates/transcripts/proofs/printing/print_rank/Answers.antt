use Rattle.std.specs.Prelude.{◌++◌, codes, decimal}
use Rattle.transcripts.proofs.Writing.{prints-after, prints-stopped, stopped-append}
use Rattle.transcripts.proofs.printing.print_rank.Goals as goal

-- the word and the number
pub returns-in_err-print_count : goal.returns-in_err-print_count
returns-in_err-print_count g c =
    prints-stopped _ _ _ _ _ (stopped-append _ _ _ (codes "rank " ++ decimal c.args.rank) (codes "\n") c.in_err-print_count.ensures) c.from_residual.ensures.0

-- the line's end
pub returns : goal.returns
returns g c = prints-after _ _ _ _ _ (codes "rank " ++ decimal c.args.rank) (codes "\n") c.in_ok-print_count.ensures c.write_str.ensures
