use Rattle.std.proofs.Common.{◌≡◌, drop, map}
use Rattle.spec_reader.specs.Views.{step_tree}
use Rattle.binding_model.specs.Refusals.{with_front, each}
use Rattle.bound_specs.specs.Binding.{step}
use Rattle.spec_binding.proofs.blocks.steps.Given as goal

abbrev pub invariant-loop-text : goal.invariant-loop-text
invariant-loop-text l =
    with_front l.all.items (each (λ t. step l.tables (step_tree t)) (drop l.text-index l.texts)) ≡ each (step l.tables) (map step_tree l.texts)
