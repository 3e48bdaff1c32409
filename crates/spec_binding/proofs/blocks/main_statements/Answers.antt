use Rattle.std.proofs.Common.{sym, ap, ◌∙◌}
use Rattle.sql_grammar.specs.Text.{StatementAt}
use Rattle.sql_grammar.specs.Views.{view_form}
use Rattle.sql_grammar.specs.declared.statement.Statement.{Statement}
use Rattle.bound_specs.specs.Binding.{then_more, main_at}
use Rattle.spec_binding.proofs.DeclaredLemmas.{declared-goes_on, declared-starts, declared-map}
use Rattle.spec_binding.proofs.blocks.main_statements.Goals as goal

abbrev place : Statement → StatementAt
place s = (s.at, view_form s.form)

pub loop-text-init : goal.loop-text-init
loop-text-init c =
    rw c.new-all.ensures.items
    (declared-starts (λ t s. main_at c.args.block t (place s)) c.args.tables.now.items c.args.texts.now
    ∙ sym (declared-map place (main_at c.args.block) c.args.texts.now c.args.tables.now.items))

pub loop-text-preserved : goal.loop-text-preserved
loop-text-preserved c =
    sym (declared-goes_on (λ t s. main_at c.args.block t (place s)) c.loop-text.tables.items c.loop-text.all.items c.args.texts.now c.loop-text.text-index
    c.text-item.result c.push_main.new.tables.items c.push_main.new.all.items c.loop-text-test.true
    (ap (λ s. then_more c.loop-text.all.items (main_at c.args.block c.loop-text.tables.items (place s))) (sym c.text-item.is) ∙ c.in_ok-push_main.ensures))
    ∙ c.loop-text.invariant
