use Rattle.std.proofs.Common.{◌≡◌, take}
use Rattle.marked_worlds.proofs.seen.are_same.Given as goal

-- those so far are the same
abbrev pub invariant-loop-place : goal.invariant-loop-place
invariant-loop-place l = take l.place l.kept ≡ take l.place l.others
