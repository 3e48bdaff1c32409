use Rattle.std.proofs.Common.{◌≡◌, ◌∷◌, drop}
use Rattle.sql_grammar.specs.Views.{chain_of}
use Rattle.binding_model.specs.Refusals.{with_front, each}
use Rattle.binding_model.specs.Statements.{row_values}
use Rattle.statement_binding.proofs.inserts.rows_values.Given as goal

abbrev pub invariant-loop-row : goal.invariant-loop-row
invariant-loop-row l =
    with_front l.all.items (each (λ r. row_values l.at (chain_of r)) (drop l.row-index l.rows.more))
    ≡ each (λ r. row_values l.at (chain_of r)) (l.rows.first ∷ l.rows.more)
