-- Waits by their places, and what is looked for among those that came before and after. No public clause cites this module.
use Rattle.std.specs.Prelude.{ℕ, ◌+◌, Bool, true, not, ◌&&◌, ◌||◌, ◌==◌, List, get_or, take, drop, Option, Some, None}
use Rattle.lock_modes.specs.declared.mode.Mode.TheVariants.{IntentShare}
use Rattle.lock_modes.specs.declared.resource.Resource.{Resource}
use Rattle.lock_queues.specs.Locks.{Look, Spot, converts}
use Rattle.numbered_specs.specs.Numbers.{place_of}
use Rattle.numbered_specs.specs.declared.request.ResourceNumber.{ResourceNumber}
use Rattle.marked_locks.specs.Queued.{wait_of, waits_of}
use Rattle.marked_locks.specs.declared.wait.NumberedWait.{NumberedWait}

-- where there is no wait
abbrev pub no_wait : NumberedWait
no_wait = record { session = 0; resource = record { index = 0 }; mode = IntentShare }

-- the wait at a place, with those that came before it and after it
abbrev pub spot_at : List Resource → List NumberedWait → ℕ → Spot
spot_at rs ws k = record { before = waits_of rs (take k ws); wait = wait_of rs (get_or ws k no_wait); after = waits_of rs (drop (k + 1) ws) }

-- a session is looked for, or any
abbrev pub is_of : Option ℕ → ℕ → Bool
is_of None session = true
is_of (Some other) session = session == other

-- the wait is at this resource, of a session that is looked for, and a conversion where only these are looked for
abbrev pub stands : Look → List Resource → ResourceNumber → Bool → Option ℕ → NumberedWait → Bool
stands look rs number converting whose w = is_of whose w.session && ((place_of w.resource == place_of number) && (not converting || converts look (wait_of rs w)))
