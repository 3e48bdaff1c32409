use Rattle.std.proofs.Common.{◌≡◌, drop}
use Rattle.sql_grammar.specs.Views.{chain_of}
use Rattle.binding_model.specs.Names.{list_of}
use Rattle.binding_model.specs.Refusals.{with_front, each}
use Rattle.binding_model.specs.Tables.{column}
use Rattle.statement_binding.proofs.inserts.columns.Given as goal

abbrev pub invariant-loop-name : goal.invariant-loop-name
invariant-loop-name l = with_front l.all.items (each (column l.table l.at) (drop l.name-index l.names.more))
    ≡ each (column l.table l.at) (list_of (chain_of l.names))
