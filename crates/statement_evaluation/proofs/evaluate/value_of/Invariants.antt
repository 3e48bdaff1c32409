use Rattle.std.proofs.Common.{◌≡◌, drop}
use Rattle.statement_evaluation.specs.Borrowed.{value_if}
use Rattle.statement_evaluation.specs.Evaluate.{plus_each, value_of}
use Rattle.statement_evaluation.proofs.evaluate.value_of.Given as goal

-- with the parts that are left it is the value
abbrev pub invariant-loop-part : goal.invariant-loop-part
invariant-loop-part l = plus_each l.row (value_if l.value) (drop l.part-index l.expression.more) ≡ value_of l.row l.expression
