use Rattle.std.proofs.Common.{◌≡◌, drop}
use Rattle.sql_grammar.specs.declared.expression.Condition.{out-Condition}
use Rattle.sql_grammar.specs.Views.{view_atom, view_part, view_condition}
use Rattle.binding_model.specs.Refusals.{with_front, each}
use Rattle.binding_model.specs.Translation.{atom, part, parts, alternatives}
use Rattle.statement_binding.proofs.conditions.+condition.Given as goal

abbrev pub invariant-part-ands : goal.invariant-part-ands
invariant-part-ands l =
    with_front l.all.items (each (λ a. atom (view_atom a) l.table l.at) (drop l.next-index l.text.more)) ≡ parts (view_part l.text) l.table l.at

abbrev pub invariant-condition-ors : goal.invariant-condition-ors
invariant-condition-ors l =
    with_front l.all.items (each (λ p. part (view_part p) l.table l.at) (drop l.next-index (out-Condition l.text).more))
    ≡ alternatives (view_condition l.text) l.table l.at
