use Rattle.std.proofs.Common.{ap, ◌∙◌, pos}
use Rattle.std.specs.Option.{unwrap_or}
use Rattle.std.proofs.lemmas.Option.{unwrap_or-slice_get}
use Rattle.lock_modes.specs.declared.value.Value.TheVariants.{Int}
use Rattle.statement_evaluation.proofs.value_ref.ValueRef.in_column.Goals as goal

-- past the end of the row
pub returns-in-None : goal.returns-in-None
returns-in-None c = ap (λ o. unwrap_or o (Int (pos 0))) c.in-None.ensures ∙ unwrap_or-slice_get c.args.row.now c.args.column (Int (pos 0))
