use Rattle.std.proofs.Common.{◌≡◌, ◌*◌, ◌^◌, drop, pos, ◌+ℤ◌, ◌≤ℤ◌}
use lib.IntN.{neg_ℤ}
use Rattle.statement_evaluation.specs.Effect.{total_of}
use Rattle.statement_evaluation.proofs.select.total.Given as goal

-- with the numbers that are left it is the total, and it is no more than so many numbers come to
abbrev pub invariant-loop-entry : goal.invariant-loop-entry
invariant-loop-entry l = (l.total +ℤ total_of l.column (drop l.entry-index l.found) ≡ total_of l.column l.found)
    × (neg_ℤ (pos (2 ^ 63 * l.entry-index)) ≤ℤ l.total) × (l.total ≤ℤ pos (2 ^ 63 * l.entry-index))
