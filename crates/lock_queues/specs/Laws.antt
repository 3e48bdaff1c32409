-- The laws of the lock table.
use Rattle.std.specs.Prelude.{◌≡◌, ◌↔◌, ℕ, ◌<◌, ◌≤◌, true, false, List, Some, None}
use Rattle.lock_modes.specs.Mode.{cover}
use Rattle.lock_modes.specs.declared.mode.Mode.{Mode}
use Rattle.lock_modes.specs.declared.resource.Resource.{Resource}
use Rattle.lock_queues.specs.declared.answer.Answer.{Answer}
use Rattle.lock_queues.specs.declared.answer.Taken.{Taken}
use Rattle.lock_queues.specs.declared.wait.Wait.{Wait}
use Rattle.lock_queues.specs.Locks.{Look, Spot, waits_now, waits_for, closes_ring}
use Rattle.lock_queues.specs.LockTable.{Locks, no_locks, look_in, taken, ask, ask_now, let_go, to_grant, grant}
use Rattle.lock_queues.specs.Sound.{Way, EachWait, edges, IsSound}
use Rattle.lock_queues.specs.Rules.{MayHave, IsAnswer, after, IsTaken, after_now, IsNext, NothingRipe}
use Rattle.lock_queues.specs.Reasons.{Want, want_of, IsExact}
use Rattle.lock_queues.specs.Rings.{ring_of, IsRing}

-- modes of different sessions stay compatible, no session waits twice, and no ring comes, whatever is asked, granted and let go
pub record StaysSound : Type 0 where
  pub empty : IsSound no_locks
  pub asked : (l : Locks) (i : ℕ) (r : Resource) (m : Mode) (a : Answer)
      → IsSound l → waits_now l.waits i ≡ false → IsAnswer l i r m a → IsSound (after l i r m a)
  pub taken : (l : Locks) (i : ℕ) (r : Resource) (m : Mode) (a : Taken)
      → IsSound l → waits_now l.waits i ≡ false → IsTaken l i r m a → IsSound (after_now l i r m a)
  pub granted : (l : Locks) (s : Spot) → IsSound l → IsNext l s → IsSound (grant l s)
  pub gone : (l : Locks) (i : ℕ) → IsSound l → IsSound (let_go l i)

-- a mode that the held one covers is granted, and nothing changes
abbrev pub CoveredIsHad : Type 0
CoveredIsHad = (l : Locks) (i : ℕ) (r : Resource) (m held : Mode)
    → IsSound l → look_in l i r ≡ Some held → cover held m ≡ held → MayHave l i r m × (taken l i r m ≡ l)

-- where every ripe wait has been granted, each session that waits waits for one that does not, by way of others or at once
abbrev pub WaitersReach : Type 0
WaitersReach = (l : Locks) → IsSound l → NothingRipe l → (a : ℕ) → waits_now l.waits a ≡ true → (b : ℕ) × Way (edges l) a b × (waits_now l.waits b ≡ false)

-- the sessions that hold or wait are below the number
pub record IsBelow (count : ℕ) (l : Locks) : Type 0 where
  pub holders : (c : ℕ) (r : Resource) → count ≤ c → look_in l c r ≡ None
  pub waiters : EachWait (λ w. w.session < count) l.waits

-- where all sessions are below a number, the rules are what their tests up to it compute
pub record TestsDecide (count : ℕ) (l : Locks) : Type 0 where
  pub asked : (i : ℕ) (r : Resource) (m : Mode) (a : Answer)
      → i < count → IsAnswer l i r m a → ask count l i r m ≡ record { answer = a; locks = after l i r m a }
  pub taken : (i : ℕ) (r : Resource) (m : Mode) (a : Taken) → IsTaken l i r m a → ask_now count l i r m ≡ record { answer = a; locks = after_now l i r m a }
  pub next : (s : Spot) → IsNext l s → to_grant count l ≡ Some s
  pub none : NothingRipe l → to_grant count l ≡ None

abbrev pub TestsDecideBelow : Type 0
TestsDecideBelow = (count : ℕ) (l : Locks) → IsBelow count l → TestsDecide count l

-- of a sound table whose sessions are below a number, something is told of whoever waits and of nobody else, and what is told is exact
abbrev pub ReasonsAreExact : Type 0
ReasonsAreExact = (count : ℕ) (l : Locks) → IsSound l → IsBelow count l → (a : ℕ)
    → ((waits_now l.waits a ≡ true) ↔ ((want : Want) × (want_of count (look_in l) l.waits a ≡ Some want)))
    × ((want : Want) → want_of count (look_in l) l.waits a ≡ Some want → IsExact (look_in l) l.waits a want)

-- where a wait closes a ring, the ring that is computed is a shortest one, no session twice
abbrev pub RingsAreFound : Type 0
RingsAreFound =
    (count : ℕ) (look : Look) (waits : List Wait) (i : ℕ) → i < count → closes_ring count look waits i ≡ true
    → IsRing (waits_for look waits) count i (ring_of (waits_for look waits) count i)
