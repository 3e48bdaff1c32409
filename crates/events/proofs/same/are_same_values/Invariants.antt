use Rattle.std.proofs.Common.{◌≡◌, take}
use Rattle.events.proofs.same.are_same_values.Given as goal

-- the items so far are the same
abbrev pub invariant-loop-place : goal.invariant-loop-place
invariant-loop-place l = take l.place l.a ≡ take l.place l.b
