-- What a session reads and writes while each of its requests is had.
use Rattle.std.specs.Prelude.{◌≡◌, ◌⊎◌, ℕ, Bool, true, false, List, [], ◌∷◌, Some}
use Rattle.finite_maps.specs.Map.{get}
use Rattle.lock_modes.specs.RowPlace.{RowPlace}
use Rattle.lock_modes.specs.Rows.{Rows'}
use Rattle.lock_queues.specs.Locks.{fits, nobody_waits, may_have}
use Rattle.bound_statements.specs.Plan.{plan, opened}
use Rattle.machine_model.specs.Session.{Task, Ask, Do, Session, Held, Goes, Fails, perform}
use Rattle.machine_model.specs.Go.{Scene, Stop, taking, is_broken}
use Rattle.lock_modes.specs.declared.mode.Mode.{Mode}
use Rattle.lock_modes.specs.declared.resource.Resource.{Resource}
use Rattle.bound_statements.specs.declared.statement.Bound.{Bound}

abbrev pub EachAsk : (Resource → Mode → Type 0) → List Task → Type 0
EachAsk P [] = Unit {0}
EachAsk P (Ask nowait r m ∷ ts) = P r m × EachAsk P ts
EachAsk P (Do st ∷ ts) = EachAsk P ts

-- each statement of the tasks
abbrev pub EachDo : (Bound → Type 0) → List Task → Type 0
EachDo P [] = Unit {0}
EachDo P (Ask nowait r m ∷ ts) = EachDo P ts
EachDo P (Do st ∷ ts) = P st × EachDo P ts

-- what the session holds fits beside the others
pub record HeldFits (e : Scene) (i : ℕ) (h : Held) : Type 0 where
  pub each : (r : Resource) (m : Mode) → get h r ≡ Some m → fits e.count e.look i r m ≡ true

-- the request fits and nobody waits there
abbrev pub IsFree : Scene → ℕ → Resource → Mode → Type 0
IsFree e i r m = (fits e.count e.look i r m ≡ true) × (nobody_waits e.waits r ≡ true)

pub record AgreeBut (hidden : RowPlace → Bool) (a b : Rows') : Type 0 where
  pub each : (p : RowPlace) → hidden p ≡ false → get a p ≡ get b p

-- the statement reads nothing that the side may write
pub record ReadsBut (hidden : RowPlace → Bool) (st : Bound) : Type 0 where
  pub each : (p : RowPlace) → opened (plan st) p ≡ true → hidden p ≡ false

-- from the rows a and b on, two runs that end in x and y leave each place as it was, or leave the same there
abbrev pub SameChanges : Rows' → Rows' → Rows' → Rows' → Type 0
SameChanges a x b y = (p : RowPlace) → ((get x p ≡ get a p) × (get y p ≡ get b p)) ⊎ (get x p ≡ get y p)

-- two stops of one session, from the rows a and b on: it stands the same, and changed the same
pub record EndsSame (a b : Rows') (x y : Stop) : Type 0 where
  pub session : x.session ≡ y.session
  pub changes : SameChanges a x.rows b y.rows

-- each request is had when it is asked
abbrev pub AllHad : Scene → ℕ → Session → Rows' → List Task → Type 0
AllHad e i s rows [] = Unit {0}
AllHad e i s rows (Ask nowait r m ∷ ts) = elim (is_broken s.status)
    [ true ↦ Unit {0} | false ↦ (may_have e.count e.look e.waits i (get s.held r) r m ≡ true) × AllHad e i (taking s r m) rows ts ]
AllHad e i s rows (Do st ∷ ts) = elim (perform s rows st) [ Goes s2 rows2 ↦ AllHad e i s2 rows2 ts | Fails f ↦ Unit {0} ]
