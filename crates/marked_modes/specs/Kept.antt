-- How modes are kept so that they can be taken away from a session at once. No public clause cites this module.
use Rattle.std.specs.Prelude.{◌≡◌, ◌<◌, ◌⊎◌, ◌==◌, ℕ, true, cond, List, [], ◌∷◌, length, get_or, set, map, All, Option, None, is_some}
use Rattle.std.specs.List.{AllZip, list_all}
use Rattle.std.specs.List.Sorted.{IsStrictlySortedBy}
use Rattle.lock_modes.specs.Resource.{resource_cmp}
use Rattle.lock_modes.specs.declared.mode.Mode.{Mode}
use Rattle.lock_modes.specs.declared.resource.Resource.{Resource}
use Rattle.marked_lists.specs.Versions.{Versions}
use Rattle.marked_modes.specs.Held.{MarkedHolds, held_map, mode_in}
use Rattle.marked_modes.specs.declared.row.ModeRow.{ModeRow}
use Rattle.marked_modes.specs.declared.row.Given.{Given}

-- a row in which nobody holds anything
abbrev pub no_modes : ModeRow
no_modes = record { modes = [] }

-- nobody holds anything there
abbrev pub IsBlank : ModeRow → Type 0
IsBlank row = (session : ℕ) → mode_in row session ≡ None

-- the mode of a session at a place
abbrev pub mode_at : List ModeRow → ℕ → ℕ → Option Mode
mode_at rows place session = mode_in (get_or rows place no_modes) session

-- the row with another mode of a session, or none
abbrev pub with_mode : ModeRow → ℕ → Option Mode → ModeRow
with_mode row session mode = record { modes = set row.modes session mode }

abbrev pub put_mode : List ModeRow → ℕ → ℕ → Option Mode → List ModeRow
put_mode rows place session mode = set rows place (with_mode (get_or rows place no_modes) session mode)

-- what was given to a session is taken away
abbrev pub cleared_of : ℕ → Given → List ModeRow → List ModeRow
cleared_of session g rows = cond (g.session == session) (put_mode rows g.place session None) rows

abbrev pub cleared : ℕ → List Given → List ModeRow → List ModeRow
cleared session [] rows = rows
cleared session (g ∷ gs) rows = cleared session gs (cleared_of session g rows)

-- a mode was given to the session at the place
abbrev pub IsGiven : List Given → ℕ → ℕ → Type 0
IsGiven [] session place = ⊥
IsGiven (g ∷ gs) session place = ((g.session ≡ session) × (g.place ≡ place)) ⊎ IsGiven gs session place

abbrev pub IsInside : List ModeRow → Given → Type 0
IsInside rows g = g.place < length rows

-- nothing is forgotten, or all that was given, where it was given to the session
abbrev pub Forgets : ℕ → Versions Given → Versions Given → Type 0
Forgets session old new = (new ≡ old) ⊎ ((list_all (λ (g : Given). g.session == session) old.list ≡ true) × (new ≡ record old { list = [] }))

-- each resource has a row, what was given is of rows, and who holds something was given it
pub record IsKeptAt (resources : List Resource) (rows : List ModeRow) (given : List Given) : Type 0 where
  pub count : length rows ≡ length resources
  pub inside : All (IsInside rows) given
  pub complete : (place session : ℕ) → is_some (mode_at rows place session) ≡ true → IsGiven given session place

-- so it is now and at each mark, and no resource is there twice
pub record IsKept (resources : List Resource) (rows : Versions ModeRow) (given : Versions Given) : Type 0 where
  pub rise : IsStrictlySortedBy resource_cmp resources
  pub now : IsKeptAt resources rows.list given.list
  pub marked : AllZip (IsKeptAt resources) rows.marked given.marked

abbrev pub holds_of : List Resource → Versions ModeRow → MarkedHolds
holds_of resources rows = record { resources = resources; now = held_map resources rows.list; marked = map (held_map resources) rows.marked }
