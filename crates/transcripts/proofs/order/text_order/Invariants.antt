use Rattle.std.proofs.Common.{◌≡◌, ◌≤◌, ◌-◌, length, drop}
use Rattle.transcripts.proofs.Escapes.{texts_cmp}
use Rattle.transcripts.proofs.order.text_order.Given as goal

-- what the bytes from here on come to
abbrev pub invariant-loop-place : goal.invariant-loop-place
invariant-loop-place l = (l.place ≤ length l.a) × (l.place ≤ length l.b) × (texts_cmp l.a l.b ≡ texts_cmp (drop l.place l.a) (drop l.place l.b))

abbrev pub decreases-loop-place : goal.decreases-loop-place
decreases-loop-place l = length l.a - l.place
