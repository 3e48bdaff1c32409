use Rattle.std.proofs.Common.{ap, sym, ◌∙◌, Ok, get_or, length, arith}
use Rattle.std.proofs.lemmas.Result.{err_from_is_err_and}
use Rattle.sql_grammar.specs.Tree as tree
use Rattle.sql_grammar.specs.declared.expression.Condition.{out-Condition}
use Rattle.bound_statements.specs.declared.condition.Condition.{Condition}
use Rattle.binding_model.specs.Refusals.{Bind, ◌>>=◌, each}
use Rattle.sql_grammar.specs.Views.{view_atom, view_part}
use Rattle.binding_model.specs.Translation.{atom, part, joined}
use Rattle.binding_model.specs.declared.joint.Joint.TheVariants.{All, Any}
use Rattle.statement_binding.proofs.ConditionLemmas.{parts-viewed, alternatives-viewed}
use Rattle.statement_binding.proofs.EachLemmas.{each-bound, each-refused, first-bound, first-refused, still-refused}
use Rattle.statement_binding.proofs.conditions.+condition.Goals as goal

pub part-returns-in_err-push_bound : goal.part-returns-in_err-push_bound
part-returns-in_err-push_bound t c =
    let f : tree.Atom → Bind Condition = λ x. atom x c.args.table.now c.args.at in
    let p = err_from_is_err_and c.from_residual.result c.from_residual.ensures.1 in
    rw (p.1, p.2)
    (still-refused c.push_bound.new.all.items _ _ _ (c.in_err-push_bound.ensures (f (view_atom c.args.text.now.first)) c.atom.ensures)
    (λ e told. ap (λ r. r >>= λ cs. Ok (joined All cs)) (parts-viewed c.args.table.now c.args.at c.args.text.now ∙ first-refused _ _ _ e told)))

pub part-ands-init : goal.part-ands-init
part-ands-init t c =
    let f : tree.Atom → Bind Condition = λ x. atom x c.args.table.now c.args.at in
    let text = c.args.text.now in
    first-bound (f (view_atom text.first)) (each (λ x. f (view_atom x)) text.more) _ _ c.new-all.ensures.items
    (c.in_ok-push_bound.ensures (f (view_atom text.first)) c.atom.ensures) ∙ sym (parts-viewed c.args.table.now c.args.at c.args.text.now)

pub part-returns-in_err-push_bound-2 : goal.part-returns-in_err-push_bound-2
part-returns-in_err-push_bound-2 t c =
    let f : tree.Atom → Bind Condition = λ x. atom x c.args.table.now c.args.at in
    let here = c.next-item.is ∙ ap (λ xs. get_or xs c.ands.next-index c.next-item.result) c.as_slice-next-items.ensures in
    let p = err_from_is_err_and c.from_residual-in_err-push_bound-2.result c.from_residual-in_err-push_bound-2.ensures.1 in
    rw (p.1, p.2)
    (still-refused c.push_bound-in-ands.new.all.items _ _ _ (c.in_err-push_bound-2.ensures (f (view_atom c.next-item.result)) c.atom-in-ands.ensures)
    (λ e told. ap (λ r. r >>= λ cs. Ok (joined All cs)) (sym c.ands.invariant
    ∙ each-refused (λ x. f (view_atom x)) c.ands.all.items c.args.text.now.more c.ands.next-index c.next-item.result e
    (omega (arith, c.ands-test.true, ap length c.as_slice-next-items.ensures)) here told)))

pub part-ands-preserved : goal.part-ands-preserved
part-ands-preserved t c =
    let f : tree.Atom → Bind Condition = λ x. atom x c.args.table.now c.args.at in
    let here = c.next-item.is ∙ ap (λ xs. get_or xs c.ands.next-index c.next-item.result) c.as_slice-next-items.ensures in
    each-bound (λ x. f (view_atom x)) c.ands.all.items c.push_bound-in-ands.new.all.items c.args.text.now.more c.ands.next-index c.next-item.result
    (omega (arith, c.ands-test.true, ap length c.as_slice-next-items.ensures)) here
    (c.in_ok-push_bound-2.ensures (f (view_atom c.next-item.result)) c.atom-in-ands.ensures) ∙ c.ands.invariant

pub part-returns-in_err-joined : goal.part-returns-in_err-joined
part-returns-in_err-joined t c =
    let p = err_from_is_err_and c.from_residual-in_err-joined.result c.from_residual-in_err-joined.ensures.1 in
    rw (p.1, p.2) tt

pub condition-returns-in_err-push_bound : goal.condition-returns-in_err-push_bound
condition-returns-in_err-push_bound t c =
    let f : tree.Part → Bind Condition = λ x. part x c.args.table.now c.args.at in
    let p = err_from_is_err_and c.from_residual.result c.from_residual.ensures.1 in
    rw (p.1, p.2)
    (still-refused c.push_bound.new.all.items _ _ _ (c.in_err-push_bound.ensures (f (view_part (out-Condition c.args.text.now).first)) c.part.ensures)
    (λ e told. ap (λ r. r >>= λ cs. Ok (joined Any cs)) (alternatives-viewed c.args.table.now c.args.at c.args.text.now ∙ first-refused _ _ _ e told)))

pub condition-ors-init : goal.condition-ors-init
condition-ors-init t c =
    let f : tree.Part → Bind Condition = λ x. part x c.args.table.now c.args.at in
    let text = out-Condition c.args.text.now in
    first-bound (f (view_part text.first)) (each (λ x. f (view_part x)) text.more) _ _ c.new-all.ensures.items
    (c.in_ok-push_bound.ensures (f (view_part text.first)) c.part.ensures) ∙ sym (alternatives-viewed c.args.table.now c.args.at c.args.text.now)

pub condition-returns-in_err-push_bound-2 : goal.condition-returns-in_err-push_bound-2
condition-returns-in_err-push_bound-2 t c =
    let f : tree.Part → Bind Condition = λ x. part x c.args.table.now c.args.at in
    let here = c.next-item.is ∙ ap (λ xs. get_or xs c.ors.next-index c.next-item.result) c.as_slice-next-items.ensures in
    let p = err_from_is_err_and c.from_residual-in_err-push_bound-2.result c.from_residual-in_err-push_bound-2.ensures.1 in
    rw (p.1, p.2)
    (still-refused c.push_bound-in-ors.new.all.items _ _ _ (c.in_err-push_bound-2.ensures (f (view_part c.next-item.result)) c.part-in-ors.ensures)
    (λ e told. ap (λ r. r >>= λ cs. Ok (joined Any cs)) (sym c.ors.invariant
    ∙ each-refused (λ x. f (view_part x)) c.ors.all.items (out-Condition c.args.text.now).more c.ors.next-index c.next-item.result e
    (omega (arith, c.ors-test.true, ap length c.as_slice-next-items.ensures)) here told)))

pub condition-ors-preserved : goal.condition-ors-preserved
condition-ors-preserved t c =
    let f : tree.Part → Bind Condition = λ x. part x c.args.table.now c.args.at in
    let here = c.next-item.is ∙ ap (λ xs. get_or xs c.ors.next-index c.next-item.result) c.as_slice-next-items.ensures in
    each-bound (λ x. f (view_part x)) c.ors.all.items c.push_bound-in-ors.new.all.items (out-Condition c.args.text.now).more c.ors.next-index c.next-item.result
    (omega (arith, c.ors-test.true, ap length c.as_slice-next-items.ensures)) here
    (c.in_ok-push_bound-2.ensures (f (view_part c.next-item.result)) c.part-in-ors.ensures) ∙ c.ors.invariant

pub condition-returns-in_err-joined : goal.condition-returns-in_err-joined
condition-returns-in_err-joined t c =
    let p = err_from_is_err_and c.from_residual-in_err-joined.result c.from_residual-in_err-joined.ensures.1 in
    rw (p.1, p.2) tt
