use Rattle.std.proofs.Common.{◌≡◌, map, take}
use Rattle.events.specs.declared.event.Event.TheVariants.{Row as RowEvent}
use Rattle.statement_evaluation.specs.Effect.{projected}
use Rattle.statement_evaluation.proofs.select.rows.Given as goal

-- the first rows
abbrev pub invariant-loop-entry : goal.invariant-loop-entry
invariant-loop-entry l = l.events.items ≡ map (λ e. RowEvent (projected l.columns e.1)) (take l.entry-index l.found)
