use Rattle.std.proofs.Common.{◌≡◌, drop}
use Rattle.sql_grammar.specs.Text.{seen}
use Rattle.sql_grammar.specs.Views.{view_form}
use Rattle.bound_specs.specs.Binding.{then_more, declared, main_at}
use Rattle.spec_binding.proofs.blocks.main_statements.Given as goal

abbrev pub invariant-loop-text : goal.invariant-loop-text
invariant-loop-text l =
    then_more l.all.items (declared (λ t s. main_at l.block t (s.at, view_form s.form)) l.tables.items (drop l.text-index l.texts))
    ≡ declared (main_at l.block) l.fn.tables.items (seen l.texts)
