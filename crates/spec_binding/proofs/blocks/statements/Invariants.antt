use Rattle.std.proofs.Common.{◌≡◌, drop}
use Rattle.sql_grammar.specs.Text.{seen}
use Rattle.sql_grammar.specs.Views.{view_form}
use Rattle.binding_model.specs.Refusals.{with_front, each}
use Rattle.bound_specs.specs.Binding.{statement_at}
use Rattle.spec_binding.proofs.blocks.statements.Given as goal

abbrev pub invariant-loop-text : goal.invariant-loop-text
invariant-loop-text l =
    with_front l.all.items (each (λ s. statement_at l.tables l.block (s.at, view_form s.form)) (drop l.text-index l.texts))
    ≡ each (statement_at l.tables l.block) (seen l.texts)
