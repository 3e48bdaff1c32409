use Rattle.std.proofs.Common.{◌≡◌, drop}
use Rattle.sql_grammar.specs.Views.{chain_of}
use Rattle.binding_model.specs.Names.{list_of}
use Rattle.binding_model.specs.Refusals.{with_front, each}
use Rattle.binding_model.specs.Translation.{value}
use Rattle.statement_binding.proofs.inserts.row_values.Given as goal

abbrev pub invariant-loop-literal : goal.invariant-loop-literal
invariant-loop-literal l = with_front l.values.items (each (value l.at) (drop l.literal-index l.row.more)) ≡ each (value l.at) (list_of (chain_of l.row))
