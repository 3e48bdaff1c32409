use Rattle.std.proofs.Common.{sym, length}
use Rattle.std.proofs.lemmas.Bool.{ltb-false}
use Rattle.binding_model.proofs.OptionLemmas.{row_mixes-past}
use Rattle.statement_binding.proofs.types.row_mixes.Goals as goal

pub returns-in-None : goal.returns-in-None
returns-in-None c =
    row_mixes-past c.args.table.now c.args.columns.now c.args.row.now c.loop-n.n _
    (ltb-false c.loop-n.n (length c.args.row.now) (sym c.in-None.ensures.lookup.0)) c.loop-n.invariant
