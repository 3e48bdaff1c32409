use Rattle.transcripts.specs.Text.{rank_text, outcome_text}
use Rattle.transcripts.proofs.Writing.{prints-after, prints-stopped, stopped-append}
use Rattle.spec_commands.proofs.single.write_one.Goals as goal

-- the rank is not written
pub returns-in_err-print_rank : goal.returns-in_err-print_rank
returns-in_err-print_rank g c = prints-stopped _ _ _ _ _ (stopped-append _ _ _ _ _ c.in_err-print_rank.ensures) c.from_residual.ensures.0

-- the rank is written, and then the outcome or a front of it
pub returns : goal.returns
returns g c =
    let spec = c.args.spec.now in
    prints-after g.W.Write.contents c.args.out.now _ c.write_outcome.new.out c.write_outcome.result (rank_text c.args.rank)
    (outcome_text spec.session_names spec.step_names c.args.outcome.now) c.in_ok-print_rank.ensures c.write_outcome.ensures
