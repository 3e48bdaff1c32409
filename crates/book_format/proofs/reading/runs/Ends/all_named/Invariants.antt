use Rattle.std.proofs.Common.{◌≡◌, ℕ, ◌<◌, get_or}
use Rattle.book_format.proofs.reading.runs.Ends.all_named.Given as goal

abbrev pub invariant-loop-end : goal.invariant-loop-end
invariant-loop-end l = (n : ℕ) → n < l.end-index → get_or l.end-items n 0 ≡ 0 → ⊥
