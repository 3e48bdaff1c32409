use Rattle.std.proofs.Common.{ap, ◌∙◌}
use Rattle.statement_evaluation.specs.Effect.{next_number}
use Rattle.statement_execution.specs.Seen.{in_table}
use Rattle.marked_execution.proofs.OnlySight.{rows-in}
use Rattle.marked_execution.proofs.marked_sight.MarkedSightSight.next_number.Goals as goal

-- the rows that are looked at are those that the session sees
pub loop-key-init : goal.loop-key-init
loop-key-init c = ap (λ rows. next_number 1 (in_table c.args.table rows)) (
    c.into_iter-key-iterator.ensures.into_iter_gives
    ∙ c.scan-key-items.ensures.rows
    ∙ rows-in c.args.self.session c.args._session c.args.table c.args.self.rows.now.now c.requires
    )
