-- A lock table by the numbers of a spec's resources, now and at marks.
use Rattle.std.specs.Prelude.{◌≡◌, ◌⊎◌, ℕ, List, [], ◌∷◌, map}
use Rattle.finite_maps.specs.Map.{Map}
use Rattle.lock_modes.specs.declared.mode.Mode.{Mode}
use Rattle.lock_modes.specs.declared.resource.Resource.{Resource}
use Rattle.lock_queues.specs.declared.wait.Wait.{Wait}
use Rattle.lock_queues.specs.Locks.{Spot}
use Rattle.lock_queues.specs.LockTable.{Locks, grant, holding_order}
use Rattle.lock_queues.specs.Rules.{IsNext}
use Rattle.numbered_specs.specs.Numbers.{resource_of}
use Rattle.marked_lists.specs.Versions.{Versions}
use Rattle.marked_modes.specs.Held as modes
use Rattle.marked_modes.specs.Held.{MarkedHolds, TakesSome}
use Rattle.marked_locks.specs.declared.picture.LocksPicture.{LocksPicture}
use Rattle.marked_locks.specs.declared.wait.NumberedWait.{NumberedWait}

-- the resources, and the lock table now, and at the marks that stand, the newest first
pub record MarkedTable : Type 0 where
  pub resources : List Resource
  pub now : Locks
  pub marked : List Locks

-- a wait by number, as one for the resource with that number
abbrev pub wait_of : List Resource → NumberedWait → Wait
wait_of rs w = record { session = w.session; resource = resource_of rs w.resource; mode = w.mode }

abbrev pub waits_of : List Resource → List NumberedWait → List Wait
waits_of rs ws = map (wait_of rs) ws

-- the lock table of what is held and who waits
abbrev pub locks_of : List Resource → Map holding_order Mode → List NumberedWait → Locks
locks_of rs held ws = record { held = held; waits = waits_of rs ws }

-- the lock tables at marks
abbrev pub marked_of : List Resource → List (Map holding_order Mode) → List (List NumberedWait) → List Locks
marked_of rs [] lists = []
marked_of rs (held ∷ maps) [] = []
marked_of rs (held ∷ maps) (ws ∷ lists) = locks_of rs held ws ∷ marked_of rs maps lists

abbrev pub table_of : MarkedHolds → Versions NumberedWait → MarkedTable
table_of modes waits = record {
  resources = modes.resources;
  now = locks_of modes.resources modes.now waits.list;
  marked = marked_of modes.resources modes.marked waits.marked;
}

-- what a picture shows, by the resources
abbrev pub pictured : List Resource → LocksPicture → Locks
pictured rs p = locks_of rs (modes.pictured rs p.modes) p.waits.items

-- ---- what a refusal leaves

-- nobody waits any more, and some of what the session held is taken away from it, nothing from others
abbrev pub LosesSome : ℕ → Locks → Locks → Type 0
LosesSome session old new = (new.waits ≡ []) × TakesSome session old.held new.held

-- nothing is changed, or the next wait is granted and nobody waits any more
abbrev pub GrantsOnly : Locks → Locks → Type 0
GrantsOnly old new = (s : Spot) → IsNext old s → (new ≡ old) ⊎ (new ≡ record (grant old s) { waits = [] })
