-- The edges of a wait, told one session and one other wait at a time.
use Rattle.std.specs.Prelude.{ℕ, Bool, ◌&&◌, cond, ◌==◌, List, [], ◌∷◌, ◌++◌}
use Rattle.lock_modes.specs.declared.mode.Mode.{Mode}
use Rattle.lock_modes.specs.Mode.{compatible}
use Rattle.lock_queues.specs.declared.reason.Reason.TheVariants.{Holds, Ahead}
use Rattle.lock_queues.specs.declared.reason.Edge.{Edge}
use Rattle.lock_queues.specs.declared.wait.Wait.{Wait}
use Rattle.lock_queues.specs.Locks.{Look, wanted_by}
use Rattle.lock_queues.specs.Queue.{is_ahead}

-- the mode that session b holds, where the wanted mode does not fit beside it
abbrev pub mode_edges : ℕ → Mode → Mode → List Edge
mode_edges b wants held = cond (compatible wants held) [] (record { session = b; reason = Holds held } ∷ [])

-- the other wait is of session b, and stands ahead
abbrev pub is_told : Look → ℕ → Wait → Bool → Wait → Bool
is_told look b w earlier v = (v.session == b) && is_ahead look w earlier v

abbrev pub other_edges : Look → ℕ → Wait → Bool → Wait → List Edge
other_edges look b w earlier v = cond (is_told look b w earlier v) (record { session = b; reason = Ahead (wanted_by look v) } ∷ []) []

-- of these waits, which came all earlier or all later, those of session b that stand ahead
abbrev pub side_edges : Look → ℕ → Wait → Bool → List Wait → List Edge
side_edges look b w earlier [] = []
side_edges look b w earlier (v ∷ vs) = other_edges look b w earlier v ++ side_edges look b w earlier vs
