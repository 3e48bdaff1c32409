use Rattle.std.proofs.Common.{◌≡◌, ◌<◌, ℕ}
use Rattle.bound_specs.specs.Spec.{line_of}
use Rattle.order_names.proofs.lines.rank_of_line.Given as goal

-- at none of the ranks before this one the steps are sent
abbrev pub invariant-loop-rank : goal.invariant-loop-rank
invariant-loop-rank l = (r : ℕ) → r < l.rank → line_of l.spec.run r ≡ l.line → ⊥
