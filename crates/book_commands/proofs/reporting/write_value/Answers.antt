use Rattle.std.proofs.Common.{[], slice_index_or}
use Rattle.transcripts.specs.Text.{rank_text, outcome_text}
use Rattle.transcripts.proofs.Writing.{prints-after, prints-stopped, stopped-append}
use Rattle.book_commands.proofs.reporting.write_value.Goals as goal

-- the rank is not written
pub returns-in_err-print_rank-clause-written : goal.returns-in_err-print_rank-clause-written
returns-in_err-print_rank-clause-written g c = prints-stopped _ _ _ _ _ (stopped-append _ _ _ _ _ c.in_err-print_rank.ensures) c.from_residual.ensures.0

-- the rank is written, and then the outcome or a front of it
pub returns-clause-written : goal.returns-clause-written
returns-clause-written g c =
    let spec = c.args.spec.now in
    prints-after g.W.Write.contents c.args.out.now _ c.write.new.out c.write.result (rank_text c.args.rank)
    (outcome_text spec.session_names spec.step_names (slice_index_or c.args.outcomes.now c.args.number []))
    c.in_ok-print_rank.ensures c.write.ensures.written
