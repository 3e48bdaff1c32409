use Rattle.std.proofs.Common.{◌≡◌, drop}
use Rattle.binding_model.specs.Refusals.{with_front, each}
use Rattle.binding_model.specs.Translation.{operand}
use Rattle.statement_binding.proofs.expressions.operands.Given as goal

abbrev pub invariant-loop-factor : goal.invariant-loop-factor
invariant-loop-factor l = with_front l.all.items (each (operand l.table l.at) (drop l.factor-index l.factors)) ≡ each (operand l.table l.at) l.factors
