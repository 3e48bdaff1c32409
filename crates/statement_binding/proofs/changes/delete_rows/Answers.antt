use Rattle.std.proofs.Common.{rules}
use Rattle.statement_binding.proofs.changes.delete_rows.Goals as goal

pub returns-in_err-key : goal.returns-in_err-key
returns-in_err-key c =
    let refused = c.deleted_key.ensures c.args.number in
    search rules
