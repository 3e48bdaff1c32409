use Rattle.std.proofs.Common.{rules}
use Rattle.statement_binding.proofs.queries.select_rows.Goals as goal

pub returns-in_err-key : goal.returns-in_err-key
returns-in_err-key c =
    let refused = c.selected_key.ensures c.args.number c.args.order c.args.lock in
    search rules
