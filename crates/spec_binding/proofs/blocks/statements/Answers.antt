use Rattle.std.proofs.Common.{ap, sym, ◌∙◌}
use Rattle.sql_grammar.specs.Text.{StatementAt}
use Rattle.sql_grammar.specs.Views.{view_form}
use Rattle.sql_grammar.specs.declared.statement.Statement.{Statement}
use Rattle.bound_specs.specs.Binding.{statement_at}
use Rattle.statement_binding.proofs.EachLemmas.{each-starts, each-goes_on}
use Rattle.spec_binding.proofs.blocks.statements.Goals as goal

abbrev place : Statement → StatementAt
place s = (s.at, view_form s.form)

pub loop-text-init : goal.loop-text-init
loop-text-init c = rw c.new-all.ensures.items (each-starts place (statement_at c.args.tables.now c.args.block) c.args.texts.now)

pub loop-text-preserved : goal.loop-text-preserved
loop-text-preserved c =
    let found = ap (λ s. statement_at c.args.tables.now c.args.block (place s)) (sym c.text-item.is) ∙ c.in_ok-statement_at.ensures in
    rw c.in_ok-push.ensures.items
    (sym (each-goes_on (λ s. statement_at c.args.tables.now c.args.block (place s)) c.loop-text.all.items c.args.texts.now c.loop-text.text-index
    c.text-item.result c.in_ok-statement_at.field-0 c.loop-text-test.true found) ∙ c.loop-text.invariant)
