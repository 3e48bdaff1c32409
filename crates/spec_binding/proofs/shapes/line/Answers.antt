use Rattle.std.proofs.Common.{◌≡◌, sym, ap, ◌∙◌, ◌∷◌, [], Some, arith, length-append}
use Rattle.spec_reader.specs.Views.{item_tree}
use Rattle.binding_model.specs.Names.{place_in}
use Rattle.bound_specs.specs.Lines.{step_number}
use Rattle.spec_binding.proofs.ShapeLemmas.{some-starts, some-goes_on}
use Rattle.spec_binding.proofs.shapes.line.Goals as goal

pub loop-item-init : goal.loop-item-init
loop-item-init c = rw c.new-line.ensures (record { so_far = some-starts item_tree (step_number c.args.names.now) c.args.items.now; short = omega arith })

pub loop-item-preserved : goal.loop-item-preserved
loop-item-preserved c =
    let names = c.args.names.now in
    let found : step_number names (item_tree c.item-item.result) ≡ Some c.in_ok-step.step = ap (λ name. place_in name names) (sym c.deref.ensures)
    ∙ sym c.in_ok-step.ensures.number in
    rw c.push.ensures.items
    (record {
      so_far = sym (some-goes_on (λ i. step_number names (item_tree i)) c.loop-item.line.items c.args.items.now c.loop-item.item-index c.item-item.result
          c.in_ok-step.step c.loop-item-test.true (ap (λ i. step_number names (item_tree i)) (sym c.item-item.is) ∙ found)) ∙ c.loop-item.invariant.so_far;
      short = omega (arith, length-append c.loop-item.line.items (c.in_ok-step.step ∷ []), c.loop-item.invariant.short);
    })
