use Rattle.std.proofs.Common.{◌∙◌, rules}
use Rattle.binding_model.specs.Statements.{update_rows}
use Rattle.statement_binding.proofs.ChainLemmas.{assignments-listed, then-both}
use Rattle.statement_binding.proofs.changes.update.Goals as goal

pub returns : goal.returns
returns c =
    let listed = assignments-listed c.args.table.now c.args.at c.args.statement.now.assignments in
    let same = then-both _ _ (update_rows c.args.table.now c.args.at c.args.number) c.in_ok-sets.sets.items c.in_ok-condition.condition
    (listed ∙ c.in_ok-sets.ensures) c.in_ok-condition.ensures in
    rw same (search rules)
