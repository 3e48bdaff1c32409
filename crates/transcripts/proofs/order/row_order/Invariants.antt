use Rattle.std.proofs.Common.{◌≡◌, ◌≤◌, ◌-◌, length, drop}
use Rattle.transcripts.specs.Compact.{cell_json}
use Rattle.transcripts.proofs.Codes.{items_cmp}
use Rattle.transcripts.proofs.order.row_order.Given as goal

-- what the items from here on come to
abbrev pub invariant-loop-place : goal.invariant-loop-place
invariant-loop-place l = (l.place ≤ length l.a) × (l.place ≤ length l.b) × (items_cmp cell_json l.a l.b
    ≡ items_cmp cell_json (drop l.place l.a) (drop l.place l.b))

abbrev pub decreases-loop-place : goal.decreases-loop-place
decreases-loop-place l = length l.a - l.place
