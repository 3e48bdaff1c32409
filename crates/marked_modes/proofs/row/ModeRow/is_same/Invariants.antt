use Rattle.std.proofs.Common.{◌≡◌, take}
use Rattle.marked_modes.proofs.row.ModeRow.is_same.Given as goal

-- the modes of the sessions so far are the same
abbrev pub invariant-loop-session : goal.invariant-loop-session
invariant-loop-session l = take l.session l.self.modes ≡ take l.session l.other.modes
