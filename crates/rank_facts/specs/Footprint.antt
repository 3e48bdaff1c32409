-- What a step reads and writes while its requests are had.
use Rattle.std.specs.Prelude.{◌≡◌, ℕ, Bool, true, false, List, [], ◌∷◌, ◌++◌}
use Rattle.finite_maps.specs.Map.{get}
use Rattle.lock_modes.specs.RowPlace.{RowPlace}
use Rattle.lock_modes.specs.Rows.{Rows'}
use Rattle.events.specs.declared.event.Fault.TheVariants.{Aborted}
use Rattle.bound_statements.specs.declared.statement.Bound.{Bound}
use Rattle.machine_model.specs.Session.{Task, Ask, Do, Session, Held, Goes, Fails, perform, tasks_of}
use Rattle.machine_model.specs.Go.{go, solo, stopped, failed, taking, is_broken, finished_by}
use Rattle.machine_model.specs.World.{World, session_at, scene_of}
use Rattle.machine_model.specs.Claims.{claims_of, may_write}
use Rattle.machine_model.specs.Footprint.{EachDo, ReadsBut, AgreeBut, SameChanges, EndsSame}

-- rows change only where what is held now lets the session write
abbrev pub ChangesUnder : Held → Rows' → Rows' → Type 0
ChangesUnder held a b = (p : RowPlace) → may_write (claims_of held []) p ≡ false → get b p ≡ get a p

-- each statement on the way, and a fault that ends the step, changes rows only where what is held at that moment lets it; the last standing is such
abbrev pub WritesUnder : (Session → Rows' → Type 0) → Session → Rows' → List Task → Type 0
WritesUnder last s rows [] = last s rows
WritesUnder last s rows (Ask nowait r m ∷ ts) = elim (is_broken s.status) [
  | true ↦ ChangesUnder s.held rows (failed s rows Aborted).rows
  | false ↦ WritesUnder last
      (taking s r m) rows ts
]
WritesUnder last s rows (Do st ∷ ts) = elim (perform s rows st) [
  | Goes u after ↦ ChangesUnder s.held rows after
      × WritesUnder last u after ts
  | Fails f ↦ ChangesUnder s.held rows (failed s rows f).rows
]

-- the end of a step, outside a block a commit, changes rows under what is held then
abbrev pub EndsUnder : Session → Rows' → Type 0
EndsUnder s rows = ChangesUnder s.held rows (finished_by s.status s rows).rows

-- tasks lead a session from the one standing to the other: each request leaves its cover held, and each statement goes through
abbrev pub Leads : Session → Rows' → List Task → Session → Rows' → Type 0
Leads s rows [] t last = (s ≡ t) × (rows ≡ last)
Leads s rows (Ask nowait r m ∷ ts) t last = (is_broken s.status ≡ false) × Leads (taking s r m) rows ts t last
Leads s rows (Do st ∷ ts) t last = (u : Session) × ((after : Rows') × ((perform s rows st ≡ Goes u after) × Leads u after ts t last))

-- a session whose requests are all had goes as if alone; over rows that agree where its plans let it read it ends the same and changes the same; and it
-- changes rows only where it then holds the locks to write
pub record Footprint (w : World) (i : ℕ) (ss : List Bound) : Type 0 where
  pub alone : go (scene_of w) i (session_at w i) w.rows (tasks_of (session_at w i).status ss) ≡ stopped (scene_of w) (solo (session_at w i) w.rows (tasks_of (session_at w i).status ss))
  pub reads : (hidden : RowPlace → Bool) (b : Rows') → EachDo (ReadsBut hidden) (tasks_of (session_at w i).status ss) → AgreeBut hidden w.rows b
      → EndsSame w.rows b (solo (session_at w i) w.rows (tasks_of (session_at w i).status ss)) (solo (session_at w i) b (tasks_of (session_at w i).status ss))
  pub writes : WritesUnder EndsUnder (session_at w i) w.rows (tasks_of (session_at w i).status ss)

-- the same of the first tasks of a step, whose requests are had, whatever comes behind them
pub record FootprintUntil (w : World) (i : ℕ) (ts us : List Task) (t : Session) (rows : Rows') : Type 0 where
  pub alone : go (scene_of w) i (session_at w i) w.rows (ts ++ us) ≡ go (scene_of w) i t rows us
  pub reads : (hidden : RowPlace → Bool) (b : Rows') → EachDo (ReadsBut hidden) ts → AgreeBut hidden w.rows b
      → (c : Rows') × (Leads (session_at w i) b ts t c × SameChanges w.rows rows b c)
  pub writes : WritesUnder (λ s last. Unit {0}) (session_at w i) w.rows ts
