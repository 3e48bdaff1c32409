-- Worked runs of the definitions.
use Rattle.std.proofs.Common.{◌≡◌, refl, ℕ, List, [], ◌∷◌, Option, Some, None, option_map}
use Rattle.finite_maps.specs.Map.{get, insert, keep, empty}
use Rattle.lock_queues.specs.Locks.{Spot}
use Rattle.lock_queues.specs.LockTable.{no_locks, look_in, ask, ask_now, Asked, let_go, to_grant}
use Rattle.lock_queues.specs.declared.answer.Answer.{Answer}
use Rattle.lock_queues.specs.declared.answer.Answer.TheVariants.{Granted, Waits, Ring}
use Rattle.lock_queues.specs.declared.answer.Taken.TheVariants.{Refused}
use Rattle.lock_modes.specs.declared.mode.Mode.TheVariants.{IntentShare, IntentExclusive, Share, ShareIntent, Exclusive}
use Rattle.lock_modes.specs.declared.resource.Resource.{Resource}
use Rattle.lock_modes.specs.declared.resource.Resource.TheVariants.{Table}

abbrev t0 : Resource
t0 = Table 0

abbrev t1 : Resource
t1 = Table 1

abbrev first : Asked
first = ask 3 no_locks 0 t0 Share

abbrev second : Asked
second = ask 3 first.locks 0 t0 IntentExclusive

abbrev third : Asked
third = ask 3 second.locks 1 t0 IntentShare

abbrev fourth : Asked
fourth = ask 3 third.locks 2 t0 Share

abbrev session_of : Option Spot → Option ℕ
session_of o = option_map (λ s. s.wait.session) o

-- a conversion to the cover, a wait, a grant once the holder has let go
covers_row : (answers : List Answer) → answers ≡ first.answer ∷ second.answer ∷ third.answer ∷ fourth.answer ∷ [] → answers
    ≡ Granted ∷ Granted ∷ Granted ∷ Waits ∷ []
unfolding get insert keep empty
covers_row answers e = e

covers_held : look_in second.locks 0 t0 ≡ Some ShareIntent
unfolding get insert keep empty
covers_held = refl

grants_none : session_of (to_grant 3 fourth.locks) ≡ None
unfolding get insert keep empty
grants_none = refl

grants_two : session_of (to_grant 3 (let_go fourth.locks 0)) ≡ Some 2
unfolding get insert keep empty
grants_two = refl

-- a waiter is not passed
not_passed : (ask 3 (ask 3 first.locks 1 t0 Exclusive).locks 2 t0 IntentShare).answer ≡ Waits
unfolding get insert keep empty
not_passed = refl

-- two that would wait for each other
ring : (ask 3 (ask 3 (ask 3 (ask 3 no_locks 0 t0 Exclusive).locks 1 t1 Exclusive).locks 0 t1 Exclusive).locks 1 t0 Exclusive).answer ≡ Ring
unfolding get insert keep empty
ring = refl

-- a request that refuses to wait leaves nobody behind who would be passed
refused : (ask_now 3 first.locks 1 t0 Exclusive).answer ≡ Refused
unfolding get insert keep empty
refused = refl

not_behind : (ask 3 (ask_now 3 first.locks 1 t0 Exclusive).locks 2 t0 IntentShare).answer ≡ Granted
unfolding get insert keep empty
not_behind = refl
