-- What a store, a lock table and what is kept of each session stand for: a world.
use Rattle.std.specs.Prelude.{◌≡◌, ◌≢◌, ℕ, suc, List, [], ◌∷◌}
use Rattle.row_tables.specs.Layers.{Layers, overlay_of}
use Rattle.lock_queues.specs.LockTable.{Locks, slice}
use Rattle.events.specs.declared.event.Event.{Event}
use Rattle.machine_model.specs.declared.status.Status.{Status}
use Rattle.machine_model.specs.declared.status.Status.TheVariants.{Outside}
use Rattle.machine_model.specs.Session.{Task, Session}
use Rattle.machine_model.specs.World.{World}

-- a session's block, and what it was told
pub record SessionState : Type 0 where
  pub status : Status
  pub transcript : List Event

-- what is kept of a session beside the store and the lock table
pub record Own : Type 0 where
  pub status : Status
  pub rest : List Task
  pub transcript : List Event

abbrev pub no_own : Own
no_own = record { status = Outside; rest = []; transcript = [] }

-- the session with this number: its overlay in the store, and its part of what is held
abbrev pub session_of : Layers → Locks → ℕ → Own → Session
session_of l t i own = record { overlay = overlay_of i l; held = slice i t.held; status = own.status; rest = own.rest; transcript = own.transcript }

-- the sessions from this number on
abbrev pub sessions_from : Layers → Locks → ℕ → List Own → List Session
sessions_from l t i [] = []
sessions_from l t i (own ∷ owns) = session_of l t i own ∷ sessions_from l t (suc i) owns

abbrev pub world_of : Layers → Locks → List Own → World
world_of l t owns = record { rows = l.committed; sessions = sessions_from l t 0 owns; waits = t.waits }

-- every session but this one has the overlay and the modes that it had
pub record SameOthers (i : ℕ) (l m : Layers) (t u : Locks) : Type 0 where
  pub overlays : (c : ℕ) → c ≢ i → overlay_of c m ≡ overlay_of c l
  pub held : (c : ℕ) → c ≢ i → slice c u.held ≡ slice c t.held
