use Rattle.std.proofs.Common.{length, take, ◌-◌, ◌≡◌, ◌+◌, ◌≤◌}
use Rattle.std.specs.List.{suffix_len}
use Rattle.comment_lines.specs.Blanks.{is_blank}
use Rattle.comment_lines.proofs.blanks.blanks_at_end.Given as goal

abbrev pub invariant-loop-end : goal.invariant-loop-end
invariant-loop-end l = record {
  within : l.end ≤ length l.bytes;
  so_far : suffix_len is_blank (take l.end l.bytes) + (length l.bytes - l.end) ≡ suffix_len is_blank l.bytes;
}

abbrev pub decreases-loop-end : goal.decreases-loop-end
decreases-loop-end l = l.end
