use Rattle.std.proofs.Common.{ℕ, ◌-◌, ◌<◌, ◌≤◌, length}
use Rattle.class_stretches.specs.Growing.{end_at}
use Rattle.class_stretches.proofs.list.place_of.Given as goal

abbrev pub invariant-loop-low : goal.invariant-loop-low
invariant-loop-low l = record {
  ordered : l.low ≤ l.high;
  inside : l.high ≤ length l.list;
  before : (k : ℕ) → k < l.low → end_at l.list k ≤ l.rank;
  behind : l.high < length l.list → l.rank < end_at l.list l.high;
}

abbrev pub decreases-loop-low : goal.decreases-loop-low
decreases-loop-low l = l.high - l.low
