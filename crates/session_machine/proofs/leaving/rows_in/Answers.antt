use Rattle.std.proofs.Common.{◌++◌, sym, ap, ◌∙◌, append-nil}
use Rattle.row_tables.specs.Layers.{rows_of}
use Rattle.session_machine.proofs.Committed.{open-at, sight-open}
use Rattle.session_machine.proofs.leaving.rows_in.Goals as goal

pub scan-key-items-requires : goal.scan-key-items-requires
scan-key-items-requires c = λ key other ne. open-at c.args.store.now c.requires other (c.args.table, key)

pub returns : goal.returns
returns c =
    c.in_ok-table.ensures ∙ sym (append-nil c.loop-key.rows.items) ∙ sym (ap (λ es. c.loop-key.rows.items ++ es) c.in-None.ensures.steps.0) ∙ c.loop-key.invariant
    ∙ ap (rows_of c.args.table) (sight-open 0 c.args.store.now c.requires)
