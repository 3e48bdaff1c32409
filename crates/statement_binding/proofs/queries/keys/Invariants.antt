use Rattle.std.proofs.Common.{◌≡◌, drop}
use Rattle.sql_grammar.specs.Views.{chain_of}
use Rattle.binding_model.specs.Names.{list_of}
use Rattle.binding_model.specs.Refusals.{with_front, each}
use Rattle.binding_model.specs.Statements.{sort_key}
use Rattle.statement_binding.proofs.queries.keys.Given as goal

abbrev pub invariant-loop-text : goal.invariant-loop-text
invariant-loop-text l = with_front l.all.items (each (sort_key l.table l.at) (drop l.text-index l.texts.more))
    ≡ each (sort_key l.table l.at) (list_of (chain_of l.texts))
