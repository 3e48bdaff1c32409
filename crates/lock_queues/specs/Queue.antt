-- The queue of a resource, one wait at a time.
use Rattle.std.specs.Prelude.{Bool, true, false, not, ◌&&◌, ◌||◌, ◌==◌, ℕ, List, if◌then◌else◌}
use Rattle.std.specs.List.{list_any}
use Rattle.lock_modes.specs.Resource.{same_resource}
use Rattle.lock_queues.specs.Locks.{Wait, Spot, Look, converts, fits_with, wanted_by}

-- the other wait, which came earlier or later, stands ahead of this one
abbrev pub is_ahead : Look → Wait → Bool → Wait → Bool
is_ahead look w earlier v = same_resource v.resource w.resource && (if converts look w then earlier && converts look v else (earlier || converts look v))

-- the session of the other wait holds this one up
abbrev pub is_held_up_by : Look → Wait → Bool → Wait → Bool
is_held_up_by look w earlier v =
    not (w.session == v.session) && (not (fits_with (wanted_by look w) (look v.session w.resource)) || is_ahead look w earlier v)

-- a wait of this session is among the others, and holds this one up
abbrev pub some_holds_up : Look → Wait → Bool → List Wait → ℕ → Bool
some_holds_up look w earlier others b = list_any (λ (v : Wait). (v.session == b) && is_held_up_by look w earlier v) others

-- the wait is of this session, and that of the other is among the rest and holds it up
abbrev pub spot_marks : Look → Spot → ℕ → ℕ → Bool
spot_marks look s a b = (s.wait.session == a) && (some_holds_up look s.wait true s.before b || some_holds_up look s.wait false s.after b)
