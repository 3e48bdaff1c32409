-- What is kept by session, table and key stands for one map.
use Rattle.std.specs.Prelude.{◌≡◌, ◌≢◌, ℕ, suc, true, List, [], ◌∷◌, ◌++◌, map, get_or, Option, Some, None}
use Rattle.std.specs.Ordering.{nat_cmp}
use Rattle.std.specs.FinMap.Entries.{find, put}
use Rattle.finite_maps.specs.Map.{Map, get, entries, empty}
use Rattle.lock_modes.specs.Value.{value_cmp}
use Rattle.lock_modes.specs.Resource.{resource_order, resource_cmp}
use Rattle.lock_modes.specs.declared.mode.Mode.{Mode}
use Rattle.lock_modes.specs.declared.value.Value.{Value}
use Rattle.lock_modes.specs.declared.resource.Resource.{Resource}
use Rattle.lock_modes.specs.declared.resource.Resource.TheVariants.{Table, Row}
use Rattle.lock_queues.specs.Locks.{fits_with}
use Rattle.lock_queues.specs.LockTable.{Holding, holding_order}
use Rattle.lock_queues.specs.Tabulate.{tabulate}

-- ---- the modes of one session: on tables, and on keys by table

abbrev pub Tables : Type 0
Tables = List (ℕ × Mode)

abbrev pub Keys : Type 0
Keys = List (ℕ × List (Value × Mode))

abbrev pub mode_at_key : Option (List (Value × Mode)) → Value → Option Mode
mode_at_key None key = None
mode_at_key (Some modes) key = find value_cmp key modes

abbrev pub mode_at : Tables → Keys → Resource → Option Mode
mode_at tables keys (Table table) = find nat_cmp table tables
mode_at tables keys (Row table key) = mode_at_key (find nat_cmp table keys) key

abbrev pub known_keys : Option (List (Value × Mode)) → List (Value × Mode)
known_keys None = []
known_keys (Some modes) = modes

abbrev pub table_of : ℕ × Mode → Resource
table_of e = Table e.0

abbrev pub row_of : ℕ → Value × Mode → Resource
row_of table k = Row table k.0

abbrev pub rows_of : Keys → List Resource
rows_of [] = []
rows_of (e ∷ es) = map (row_of e.0) e.1 ++ rows_of es

abbrev pub resources_of : Tables → Keys → List Resource
resources_of tables keys = map table_of tables ++ rows_of keys

abbrev pub modes_map : Tables → Keys → Map resource_order Mode
modes_map tables keys = tabulate resource_order (mode_at tables keys) (resources_of tables keys)

-- the entries of a map of modes, with that of one more resource, if it has a mode
abbrev pub with_mode : List (Resource × Mode) → Resource → Option Mode → List (Resource × Mode)
with_mode es r None = es
with_mode es r (Some m) = put resource_cmp r m es

-- ---- the modes of all sessions, by their numbers

abbrev pub Sessions : Type 0
Sessions = List (Map resource_order Mode)

abbrev pub held_by : Sessions → Holding → Option Mode
held_by sessions h = get (get_or sessions h.0 empty) h.1

abbrev pub holdings_from : ℕ → Sessions → List Holding
holdings_from i [] = []
holdings_from i (m ∷ ms) = map (λ (e : Resource × Mode). (i, e.0)) (entries m) ++ holdings_from (suc i) ms

abbrev pub held_map : Sessions → Map holding_order Mode
held_map sessions = tabulate holding_order (held_by sessions) (holdings_from 0 sessions)

-- the mode is compatible with what every other session holds there
abbrev pub AllFit : Sessions → ℕ → Resource → Mode → Type 0
AllFit sessions i r m = (c : ℕ) → c ≢ i → fits_with m (held_by sessions (c, r)) ≡ true
