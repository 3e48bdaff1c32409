use Rattle.std.proofs.Common.{◌≡◌, ◌∷◌, drop}
use Rattle.sql_grammar.specs.Views.{view_assignment}
use Rattle.binding_model.specs.Refusals.{with_front, each}
use Rattle.binding_model.specs.Statements.{assignment}
use Rattle.statement_binding.proofs.changes.assignments.Given as goal

abbrev pub invariant-loop-text : goal.invariant-loop-text
invariant-loop-text l =
    with_front l.all.items (each (λ a. assignment l.table l.at (view_assignment a)) (drop l.text-index l.texts.more))
    ≡ each (λ a. assignment l.table l.at (view_assignment a)) (l.texts.first ∷ l.texts.more)
