-- Who holds which mode, by a row of modes for each resource.
use Rattle.std.specs.Prelude.{◌≡◌, ◌⊎◌, ℕ, zero, suc, cond, List, [], ◌∷◌, ◌++◌, length, map, get_or, replicate, Option, None}
use Rattle.finite_maps.specs.Map.{Map, get}
use Rattle.lock_modes.specs.Resource.{same_resource}
use Rattle.lock_modes.specs.declared.mode.Mode.{Mode}
use Rattle.lock_modes.specs.declared.resource.Resource.{Resource}
use Rattle.lock_queues.specs.LockTable.{Holding, holding_order}
use Rattle.lock_queues.specs.Tabulate.{tabulate}
use Rattle.marked_modes.specs.declared.picture.HeldRow.{HeldRow}
use Rattle.marked_modes.specs.declared.picture.ModesPicture.{ModesPicture}
use Rattle.marked_modes.specs.declared.row.TheConstants.{MAX_HOLDERS}
use Rattle.marked_modes.specs.declared.row.ModeRow.{ModeRow}

-- the resources, and who holds which mode now, and at the marks that stand, the newest first
pub record MarkedHolds : Type 0 where
  pub resources : List Resource
  pub now : Map holding_order Mode
  pub marked : List (Map holding_order Mode)

-- some of what a session holds is taken away from it, and nothing from others
abbrev pub TakesSome : ℕ → Map holding_order Mode → Map holding_order Mode → Type 0
TakesSome session old new = (h : Holding) → (get new h ≡ get old h) ⊎ ((h.0 ≡ session) × (get new h ≡ None))

-- ---- rows

-- the mode of a session in the row of a resource
abbrev pub mode_in : ModeRow → ℕ → Option Mode
mode_in row session = get_or row.modes session None

-- the resources have their rows in the same order
abbrev pub held_in : List Resource → List ModeRow → Holding → Option Mode
held_in [] rows h = None
held_in (r ∷ rs) [] h = None
held_in (r ∷ rs) (row ∷ rows) h = cond (same_resource h.1 r) (mode_in row h.0) (held_in rs rows h)

-- the numbers below one
abbrev pub below : ℕ → List ℕ
below zero = []
below (suc n) = n ∷ below n

abbrev pub holdings : List Resource → List ModeRow → List Holding
holdings [] rows = []
holdings (r ∷ rs) [] = []
holdings (r ∷ rs) (row ∷ rows) = map (λ s. (s, r)) (below (length row.modes)) ++ holdings rs rows

-- who holds which mode
abbrev pub held_map : List Resource → List ModeRow → Map holding_order Mode
held_map rs rows = tabulate holding_order (held_in rs rows) (holdings rs rows)

-- ---- pictures

-- a row in which nobody holds anything
abbrev pub blank_row : ModeRow
blank_row = record { modes = replicate MAX_HOLDERS None }

-- these rows, each behind so many blank ones, and so many blank ones behind all of them
abbrev pub spread : List HeldRow → ℕ → List ModeRow
spread [] behind = replicate behind blank_row
spread (h ∷ hs) behind = replicate h.before blank_row ++ h.row ∷ spread hs behind

-- what a picture shows, by the resources
abbrev pub pictured : List Resource → ModesPicture → Map holding_order Mode
pictured rs p = held_map rs (spread p.held.items p.behind)
