use Rattle.std.proofs.Common.{◌≡◌, ℕ, ◌<◌, slice_get}
use Rattle.accepted_outputs.proofs.sessions.first_session.Given as goal

-- the sessions before this one are told the same
abbrev pub invariant-loop-session : goal.invariant-loop-session
invariant-loop-session l = (n : ℕ) → n < l.session → slice_get l.told n ≡ slice_get l.accepted n
