use Rattle.std.proofs.Common.{◌≡◌, drop}
use Rattle.statement_evaluation.specs.Borrowed.{value_if}
use Rattle.statement_evaluation.specs.Evaluate.{times_each, product_value}
use Rattle.statement_evaluation.proofs.evaluate.product.Given as goal

-- times the factors that are left it is the product
abbrev pub invariant-loop-factor : goal.invariant-loop-factor
invariant-loop-factor l = times_each l.row (value_if l.value) (drop l.factor-index l.product.more) ≡ product_value l.row l.product
