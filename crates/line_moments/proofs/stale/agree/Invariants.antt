use Rattle.std.proofs.Common.{◌≡◌, drop}
use Rattle.line_moments.specs.Stale.{same_events}
use Rattle.line_moments.proofs.stale.agree.Given as goal

-- those so far are the same
abbrev pub invariant-loop-place : goal.invariant-loop-place
invariant-loop-place l = same_events (drop l.place l.a) (drop l.place l.b) ≡ same_events l.a l.b
