use Rattle.std.proofs.Common.{ap, sym, ◌∙◌, get_or, length, arith}
use Rattle.sql_grammar.specs.Views.{view_assignment}
use Rattle.bound_statements.specs.declared.statement.Assignment.{Assignment}
use Rattle.sql_grammar.specs.declared.statement.Assignment.{Assignment as Written}
use Rattle.binding_model.specs.Refusals.{Bind}
use Rattle.binding_model.specs.Statements.{assignment}
use Rattle.statement_binding.proofs.EachLemmas.{each-goes_on}
use Rattle.statement_binding.proofs.changes.assignments.Goals as goal

pub loop-text-preserved : goal.loop-text-preserved
loop-text-preserved c =
    let items = c.as_slice-text-items.ensures in
    let f : Written → Bind Assignment = λ a. assignment c.args.table.now c.args.at (view_assignment a) in
    let found = ap (λ xs. f (get_or xs c.loop-text.text-index c.text-item.result)) (sym items) ∙ ap f (sym c.text-item.is) ∙ c.in_ok-assignment-2.ensures in
    rw c.in_ok-push-2.ensures.items
    (sym (each-goes_on f c.loop-text.all.items c.args.texts.now.more c.loop-text.text-index c.text-item.result c.in_ok-assignment-2.field-0 (omega (
      arith,
      c.loop-text-test.true,
      ap length items,
    )) found) ∙ c.loop-text.invariant)
