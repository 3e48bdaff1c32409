-- What a stage leaves, and how its sessions stand.
use Rattle.std.specs.Prelude.{◌≡◌, ℕ, zero, suc, ◌<◌, ◌≤◌, List, [], ◌∷◌, ◌++◌}
use Rattle.finite_maps.specs.Map.{entries, empty}
use Rattle.binding_model.specs.declared.tables.Table.{Table}
use Rattle.lock_modes.specs.Rows.{Rows'}
use Rattle.lock_queues.specs.LockTable.{look_in, slice}
use Rattle.lock_queues.specs.Reasons.{want_of}
use Rattle.row_tables.specs.Layers.{Layers, overlay_of, rows_of}
use Rattle.line_moments.specs.Left.{standing_by}
use Rattle.line_moments.specs.declared.shown.Begun.{Begun}
use Rattle.line_moments.specs.declared.shown.Left.{Left}
use Rattle.line_moments.specs.declared.shown.Standing.{Standing}
use Rattle.session_steps.specs.Stage.{Staged}
use Rattle.session_steps.specs.Stage.{member_at}

-- the same rows are committed, and no session below the count has an overlay; others have what they had
pub record IsCommitted (count : ℕ) (l m : Layers) : Type 0 where
  pub rows : m.committed ≡ l.committed
  pub below : (c : ℕ) → c < count → overlay_of c m ≡ empty
  pub past : (c : ℕ) → count ≤ c → overlay_of c m ≡ overlay_of c l

-- no session has an overlay
abbrev pub NothingOpen : Layers → Type 0
NothingOpen l = (c : ℕ) → overlay_of c l ≡ empty

-- of the tables numbered from n on
abbrev pub lefts_from : ℕ → List Table → Rows' → List Left
lefts_from n [] rows = []
lefts_from n (t ∷ ts) rows = record { table = t; rows = rows_of n rows } ∷ lefts_from (suc n) ts rows

-- of the sessions below the number, in their order
abbrev pub begun_in : ℕ → Staged → List Begun
begun_in zero s = []
begun_in (suc n) s = begun_in n s ++ record { status = (member_at s n).state.status; locks = entries (slice n s.locks.held) } ∷ []

abbrev pub standings_in : ℕ → ℕ → Staged → List Standing
standings_in zero count s = []
standings_in (suc n) count s =
    standings_in n count s ++ standing_by (want_of count (look_in s.locks) s.locks.waits n) (member_at s n).state.status ∷ []
