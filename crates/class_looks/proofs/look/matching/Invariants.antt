use Rattle.std.proofs.Common.{◌≡◌, drop}
use Rattle.std.specs.Option.{option_copied}
use Rattle.statement_evaluation.specs.Effect.{matching}
use Rattle.statement_evaluation.proofs.ListLemmas.{onto}
use Rattle.class_looks.specs.Seeing.{entries_at}
use Rattle.class_looks.proofs.look.matching.Given as goal

-- with those that are left they are all that match
abbrev pub invariant-loop-entry : goal.invariant-loop-entry
invariant-loop-entry l = onto l.found (matching l.condition (entries_at l.table (option_copied l.key) (drop l.entry-index l.rows)))
    ≡ matching l.condition (entries_at l.table (option_copied l.key) l.rows)
