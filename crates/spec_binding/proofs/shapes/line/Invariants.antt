use Rattle.std.proofs.Common.{◌≡◌, ◌≤◌, length, drop, map}
use Rattle.spec_reader.specs.Views.{item_tree}
use Rattle.bound_specs.specs.Lines.{all_some, step_number}
use Rattle.spec_binding.proofs.ShapeLemmas.{front_some}
use Rattle.spec_binding.proofs.shapes.line.Given as goal

abbrev pub invariant-loop-item : goal.invariant-loop-item
invariant-loop-item l = record {
  so_far : front_some l.line.items (all_some (λ i. step_number l.names (item_tree i)) (drop l.item-index l.items))
      ≡ all_some (step_number l.names) (map item_tree l.items);
  short : length l.line.items ≤ l.item-index;
}
