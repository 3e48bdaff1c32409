use Rattle.std.proofs.Common.{ℕ, ◌<◌}
use Rattle.book_commands.specs.Nearest.{IsFurther, difference_at}
use Rattle.book_commands.proofs.nearest.nearest.Given as goal

-- of the differences before this one the one that was found stands furthest, and each before it less far
abbrev pub invariant-loop-index : goal.invariant-loop-index
invariant-loop-index l =
    (l.found < l.index) × ((n : ℕ) → n < l.found → IsFurther (difference_at l.differences l.found) (difference_at l.differences n))
    × ((n : ℕ) → l.found < n → n < l.index → IsFurther (difference_at l.differences n) (difference_at l.differences l.found) → ⊥)
