use Rattle.std.proofs.Common.{◌≡◌, drop, map}
use Rattle.spec_reader.specs.Views.{session_tree}
use Rattle.binding_model.specs.Refusals.{with_front, each}
use Rattle.bound_specs.specs.Binding.{session}
use Rattle.spec_binding.specs.Bindings.{bound_session}
use Rattle.spec_binding.proofs.blocks.sessions.Given as goal

abbrev pub invariant-loop-text : goal.invariant-loop-text
invariant-loop-text l =
    with_front (map bound_session l.all.items) (each (λ t. session l.tables (session_tree t)) (drop l.text-index l.texts))
    ≡ each (session l.tables) (map session_tree l.texts)
