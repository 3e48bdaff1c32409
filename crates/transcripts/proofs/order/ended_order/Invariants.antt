use Rattle.std.proofs.Common.{◌≡◌, ◌≤◌, ◌-◌, ◌++◌, ◌∷◌, [], length, drop}
use Rattle.transcripts.specs.Compact.{bytes_cmp}
use Rattle.transcripts.proofs.order.ended_order.Given as goal

-- what the bytes from here on come to
abbrev pub invariant-loop-place : goal.invariant-loop-place
invariant-loop-place l =
    (l.place ≤ length l.a) × (l.place ≤ length l.b)
    × (bytes_cmp (l.a ++ l.after_a ∷ []) (l.b ++ l.after_b ∷ []) ≡ bytes_cmp (drop l.place l.a ++ l.after_a ∷ []) (drop l.place l.b ++ l.after_b ∷ []))

abbrev pub decreases-loop-place : goal.decreases-loop-place
decreases-loop-place l = length l.a - l.place
