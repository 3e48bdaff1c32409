use Rattle.std.proofs.Common.{length, drop, ◌-◌, ◌≡◌, ◌+◌, ◌≤◌}
use Rattle.std.specs.List.{prefix_len}
use Rattle.comment_lines.specs.Blanks.{is_blank}
use Rattle.comment_lines.proofs.blanks.blanks_in_front.Given as goal

abbrev pub invariant-loop-count : goal.invariant-loop-count
invariant-loop-count l = record {
  within : l.count ≤ length l.bytes;
  so_far : l.count + prefix_len is_blank (drop l.count l.bytes) ≡ prefix_len is_blank l.bytes;
}

abbrev pub decreases-loop-count : goal.decreases-loop-count
decreases-loop-count l = length l.bytes - l.count
