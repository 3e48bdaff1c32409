use Rattle.std.proofs.Common.{◌≡◌, ap, sym, slice_get, None, rules}
use Rattle.binding_model.specs.Tables.{no_column}
use Rattle.binding_model.proofs.OptionLemmas.{get_or-none}
use Rattle.binding_model.proofs.tables.Table.type_of.Goals as goal

pub returns-in-None : goal.returns-in-None
returns-in-None c = ap (λ column. column.kind)
    (sym (get_or-none c.args.self.now.columns c.args.column no_column (let e : slice_get c.args.self.now.columns c.args.column ≡ None = search rules in e)))
