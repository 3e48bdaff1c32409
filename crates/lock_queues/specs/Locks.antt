-- Who holds which mode, who waits, what may be had and who waits for whom.
-- What is held is seen through look-ups alone: `look session resource`. `count` is the number of sessions.
use Rattle.std.specs.Prelude.{ℕ, zero, suc, Bool, true, false, not, ◌&&◌, ◌||◌, ◌==◌, List, [], ◌∷◌, ◌++◌, Option, Some, None, is_some, filter, if◌then◌else◌}
use Rattle.std.specs.List.{list_any, list_all}
use Rattle.lock_modes.specs.declared.mode.Mode.{Mode}
use Rattle.lock_queues.specs.declared.answer.Answer.{Answer}
use Rattle.lock_queues.specs.declared.answer.Answer.TheVariants.{Granted, Waits, Ring}
use Rattle.lock_modes.specs.declared.resource.Resource.{Resource}
pub use Rattle.lock_queues.specs.declared.wait.Wait.{Wait}
use Rattle.lock_modes.specs.Resource.{same_resource}
use Rattle.lock_modes.specs.Mode.{compatible, cover}

abbrev pub Look : Type 0
Look = ℕ → Resource → Option Mode

-- the mode held beside the one that is wanted
abbrev pub fits_with : Mode → Option Mode → Bool
fits_with m None = true
fits_with m (Some held) = compatible m held

-- the cover of the mode that is asked and the mode that is held
abbrev pub wanted : Option Mode → Mode → Mode
wanted None m = m
wanted (Some held) m = cover held m

-- each number below the count passes
abbrev pub all_below : ℕ → (ℕ → Bool) → Bool
all_below zero test = true
all_below (suc n) test = test n && all_below n test

-- the mode is compatible with every other session's there
abbrev pub fits : ℕ → Look → ℕ → Resource → Mode → Bool
fits count look i r m = all_below count (λ c. (c == i) || fits_with m (look c r))

abbrev pub nobody_waits : List Wait → Resource → Bool
nobody_waits waits r = list_all (λ w. not (same_resource w.resource r)) waits

abbrev pub waits_now : List Wait → ℕ → Bool
waits_now waits i = list_any (λ w. w.session == i) waits

-- the session, which holds `held` there, may have the mode at once
abbrev pub may_have : ℕ → Look → List Wait → ℕ → Option Mode → Resource → Mode → Bool
may_have count look waits i held r m = fits count look i r (wanted held m) && (is_some held || nobody_waits waits r)

-- a wait with the waits that came before it and after it
pub record Spot : Type 0 where
  pub before : List Wait
  pub wait : Wait
  pub after : List Wait

abbrev pub spots_from : List Wait → List Wait → List Spot
spots_from before [] = []
spots_from before (w ∷ after) = record { before = before; wait = w; after = after } ∷ spots_from (before ++ w ∷ []) after

abbrev pub spots : List Wait → List Spot
spots waits = spots_from [] waits

-- the wait is of a session that holds the resource
abbrev pub converts : Look → Wait → Bool
converts look w = is_some (look w.session w.resource)

-- what stands ahead: of a conversion the conversions there that came earlier, of another wait all conversions there and the other waits there that came earlier
abbrev pub ahead : Look → Spot → List Wait
ahead look s =
    let there = λ (w : Wait). same_resource w.resource s.wait.resource in
    if converts look s.wait
    then filter (λ w. there w && converts look w) s.before
    else filter there s.before ++ filter (λ w. there w && converts look w) s.after

abbrev pub is_empty : {A : Type 0} → List A → Bool
is_empty [] = true
is_empty (x ∷ xs) = false

abbrev pub wanted_by : Look → Wait → Mode
wanted_by look w = wanted (look w.session w.resource) w.mode

abbrev pub is_ripe : ℕ → Look → Spot → Bool
is_ripe count look s = fits count look s.wait.session s.wait.resource (wanted_by look s.wait) && is_empty (ahead look s)

-- the ripe wait that came first
abbrev pub first_ripe : ℕ → Look → List Spot → Option Spot
first_ripe count look [] = None
first_ripe count look (s ∷ ss) = if is_ripe count look s then Some s else first_ripe count look ss

abbrev pub next_grant : ℕ → Look → List Wait → Option Spot
next_grant count look waits = first_ripe count look (spots waits)

-- whom the wait waits for: each other session whose mode there it does not fit, and each session whose wait is ahead
abbrev pub holds_up : Look → Spot → ℕ → Bool
holds_up look s b =
    not (s.wait.session == b) && (not (fits_with (wanted_by look s.wait) (look b s.wait.resource)) || list_any (λ w. w.session == b) (ahead look s))

abbrev pub waits_for : Look → List Wait → ℕ → ℕ → Bool
waits_for look waits a b = list_any (λ s. (s.wait.session == a) && holds_up look s b) (spots waits)

-- a way along the edges whose stops between lie below n
abbrev pub way_below : (ℕ → ℕ → Bool) → ℕ → ℕ → ℕ → Bool
way_below edge zero a b = edge a b
way_below edge (suc n) a b = way_below edge n a b || (way_below edge n a n && way_below edge n n b)

-- the session reaches itself by waiting
abbrev pub closes_ring : ℕ → Look → List Wait → ℕ → Bool
closes_ring count look waits i = way_below (waits_for look waits) count i i

-- what a request gets that would wait: it may be had at once or not, and its wait would close a ring or not
abbrev pub answered : Bool → Bool → Answer
answered true closes = Granted
answered false true = Ring
answered false false = Waits
