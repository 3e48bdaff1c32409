-- The rules of the lock table over all sessions, however many there are.
use Rattle.std.specs.Prelude.{◌≡◌, ℕ, ◌≤◌, true, ◌||◌, ◌==◌, List, ◌∷◌, ◌++◌, length, Option, is_some}
use Rattle.std.specs.Option.{option_map}
use Rattle.std.specs.List.{find}
use Rattle.lock_modes.specs.declared.mode.Mode.{Mode}
use Rattle.lock_modes.specs.declared.resource.Resource.{Resource}
use Rattle.lock_queues.specs.declared.answer.Answer.{Answer}
use Rattle.lock_queues.specs.declared.answer.Answer.TheVariants.{Granted, Waits, Ring}
use Rattle.lock_queues.specs.declared.answer.Taken.{Taken}
use Rattle.lock_queues.specs.declared.answer.Taken.TheVariants as at_once
use Rattle.lock_queues.specs.Locks.{Wait, Spot, Look, wanted, wanted_by, nobody_waits, ahead, is_empty}
use Rattle.lock_queues.specs.LockTable.{Locks, look_in, queued, taken, Fits}
use Rattle.lock_queues.specs.Sound.{Way, edges}

-- the session may have the mode at once: the wanted mode is compatible with every other session's there, and it holds the resource already or nobody
-- waits there
abbrev pub MayHave : Locks → ℕ → Resource → Mode → Type 0
MayHave l i r m = Fits (look_in l) i r (wanted (look_in l i r) m) × ((is_some (look_in l i r) || nobody_waits l.waits r) ≡ true)

-- the session waits for itself, by way of others
abbrev pub IsInRing : Locks → ℕ → Type 0
IsInRing l i = Way (edges l) i i

-- what a request gets that would wait: the mode where it may be had, else a refusal where the wait would close a ring, else a wait
abbrev pub IsAnswer : Locks → ℕ → Resource → Mode → Answer → Type 0
IsAnswer l i r m Granted = MayHave l i r m
IsAnswer l i r m Ring = (¬ (MayHave l i r m)) × IsInRing (queued l i r m) i
IsAnswer l i r m Waits = (¬ (MayHave l i r m)) × (¬ (IsInRing (queued l i r m) i))

-- the table after that answer
abbrev pub after : Locks → ℕ → Resource → Mode → Answer → Locks
after l i r m Granted = taken l i r m
after l i r m Ring = l
after l i r m Waits = queued l i r m

-- what a request gets that refuses to wait: the mode where it may be had, and else a refusal
abbrev pub IsTaken : Locks → ℕ → Resource → Mode → Taken → Type 0
IsTaken l i r m at_once.Granted = MayHave l i r m
IsTaken l i r m at_once.Refused = ¬ (MayHave l i r m)

-- the table after what it gets
abbrev pub after_now : Locks → ℕ → Resource → Mode → Taken → Locks
after_now l i r m at_once.Granted = taken l i r m
after_now l i r m at_once.Refused = l

-- the wait stands there
abbrev pub IsSpot : List Wait → Spot → Type 0
IsSpot waits s = s.before ++ s.wait ∷ s.after ≡ waits

-- its wanted mode is compatible with every other session's there, and no wait is ahead
abbrev pub IsRipe : Look → Spot → Type 0
IsRipe look s = Fits look s.wait.session s.wait.resource (wanted_by look s.wait) × (is_empty (ahead look s) ≡ true)

-- of the ripe waits the one that came first, over all resources
pub record IsNext (l : Locks) (s : Spot) : Type 0 where
  pub there : IsSpot l.waits s
  pub ripe : IsRipe (look_in l) s
  pub earliest : (t : Spot) → IsSpot l.waits t → IsRipe (look_in l) t → length s.before ≤ length t.before

abbrev pub NothingRipe : Locks → Type 0
NothingRipe l = (s : Spot) → IsSpot l.waits s → IsRipe (look_in l) s → ⊥

-- the session's wait is the next to be granted
abbrev pub IsNextOf : Locks → ℕ → Type 0
IsNextOf l i = (s : Spot) × IsNext l s × (s.wait.session ≡ i)

-- the resource that the session waits for, and the wanted mode there
abbrev pub wait_of : Locks → ℕ → Option (Resource × Mode)
wait_of l i = option_map (λ (w : Wait). (w.resource, wanted_by (look_in l) w)) (find (λ (w : Wait). w.session == i) l.waits)
