-- What holds in every world that is reached.
use Rattle.std.specs.Prelude.{◌≡◌, ℕ, ◌<◌, true, List, [], ◌∷◌, length, Option, Some, None}
use Rattle.finite_maps.specs.Map.{get}
use Rattle.lock_modes.specs.RowPlace.{RowPlace}
use Rattle.lock_modes.specs.Mode.{AtLeast}
use Rattle.lock_queues.specs.declared.wait.Wait.{Wait}
use Rattle.lock_queues.specs.Locks.{next_grant, waits_for}
pub use Rattle.lock_queues.specs.Sound.{Way, one, more, NoRing, HeldTogether, EachWait, Distinct}
use Rattle.bound_statements.specs.Levels.{asked}
use Rattle.bound_statements.specs.Plan.{Tuple, Request, request}
use Rattle.machine_model.specs.World.{World, look_of, session_at}
use Rattle.row_tables.specs.Overlay.{Overlay}
use Rattle.machine_model.specs.Session.{Held, Task, Ask, Do}
use Rattle.machine_model.specs.Claims.{may_write, claims_of}
use Rattle.lock_modes.specs.declared.mode.Mode.{Mode}

-- each entry of the overlay lies where what is held lets it be written
abbrev pub UnderLocks : Overlay → Held → Type 0
UnderLocks o held = (p : RowPlace) (x : Option Tuple) → get o p ≡ Some x → may_write (claims_of held []) p ≡ true

-- a mode is held there that stands for this one
abbrev pub Covers : Option Mode → Mode → Type 0
Covers o m = (n : Mode) × (o ≡ Some n) × AtLeast n m

-- all these requests are had
abbrev pub HoldsAll : Held → List Request → Type 0
HoldsAll h [] = Unit {0}
HoldsAll h (q ∷ qs) = Covers (get h q.resource) q.mode × HoldsAll h qs

pub data IsIn : Request → List Request → Type 0 where
  here : {q : Request} {qs : List Request} → IsIn q (q ∷ qs)
  there : {q p : Request} {qs : List Request} → IsIn q qs → IsIn q (p ∷ qs)

abbrev pub AllIn : List Request → List Request → Type 0
AllIn [] have = Unit {0}
AllIn (q ∷ qs) have = IsIn q have × AllIn qs have

-- each statement comes after its requests, the ones had already included
abbrev pub Backed : List Request → List Task → Type 0
Backed have [] = Unit {0}
Backed have (Ask nowait r m ∷ ts) = Backed (request r m ∷ have) ts
Backed have (Do st ∷ ts) = AllIn (asked st) have × Backed [] ts

-- a waiting session has what is left of its step, behind the request that it waits for
pub record Ready (w : World) (v : Wait) : Type 0 where
  pub known : v.session < length w.sessions
  pub have : List Request
  pub holds : HoldsAll (session_at w v.session).held have
  pub backed : Backed (request v.resource v.mode ∷ have) (session_at w v.session).rest

-- what holds also while waits are ripe
pub record Steady (w : World) : Type 0 where
  pub together : HeldTogether (look_of w)
  pub under : (c : ℕ) → UnderLocks (session_at w c).overlay (session_at w c).held
  pub ready : EachWait (Ready w) w.waits
  pub distinct : Distinct w.waits
  pub no_ring : NoRing (waits_for (look_of w) w.waits)

pub record Sound (w : World) : Type 0 where
  pub steady : Steady w
  pub unripe : next_grant (length w.sessions) (look_of w) w.waits ≡ None
