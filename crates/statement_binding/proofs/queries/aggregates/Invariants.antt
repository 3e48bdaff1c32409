use Rattle.std.proofs.Common.{◌≡◌, drop}
use Rattle.sql_grammar.specs.Views.{chain_of}
use Rattle.binding_model.specs.Names.{list_of}
use Rattle.binding_model.specs.Refusals.{with_front, each}
use Rattle.binding_model.specs.Statements.{aggregate}
use Rattle.statement_binding.proofs.queries.aggregates.Given as goal

abbrev pub invariant-loop-text : goal.invariant-loop-text
invariant-loop-text l = with_front l.all.items (each (aggregate l.table l.at) (drop l.text-index l.texts.more))
    ≡ each (aggregate l.table l.at) (list_of (chain_of l.texts))
