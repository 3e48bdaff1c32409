-- The rows that a statement looks at.
use Rattle.std.specs.Prelude.{◌≡◌, ℕ, suc, ◌<◌, Bool, true, ◌&&◌, ◌==◌, List, length, get_or, map, Option, pos, negsuc}
use Rattle.finite_maps.specs.Map.{keep, entries}
use Rattle.lock_modes.specs.RowPlace.{RowPlace}
use Rattle.lock_modes.specs.Rows.{Rows'}
use Rattle.lock_modes.specs.declared.value.Value.{Value}
use Rattle.lock_modes.specs.declared.value.Value.TheVariants.{Int, Text}
use Rattle.bound_statements.specs.Plan.{Tuple, at_key, key_at}
use Rattle.row_tables.specs.Layers.{Layers, IsOnlyWriterAt}

-- a place in the table, at the key if one is named
abbrev pub is_named : ℕ → Option Value → RowPlace → Bool
is_named t key p = (p.0 == t) && at_key key p.1

-- the entries of these places in order
abbrev pub named : ℕ → Option Value → Rows' → List (RowPlace × Tuple)
named t key rows = entries (keep (is_named t key) rows)

-- no other session has written at these places
abbrev pub NamesAlone : ℕ → ℕ → Option Value → Layers → Type 0
NamesAlone session t key l = (p : RowPlace) → is_named t key p ≡ true → IsOnlyWriterAt session p l

-- the rows of a table with the table before their keys
abbrev pub in_table : ℕ → List (Value × Tuple) → List (RowPlace × Tuple)
in_table t es = map (λ (e : Value × Tuple). ((t, e.0), e.1)) es

-- one more than the number that a key is, or else n
abbrev pub number_after : Value → ℕ → ℕ
number_after key n = elim key [ Int z ↦ elim z [ pos m ↦ suc m | negsuc m ↦ n ] | Text s ↦ n ]

-- no other session has written at the keys of these rows
abbrev pub KeysAlone : ℕ → ℕ → ℕ → List Tuple → Layers → Type 0
KeysAlone session t k new l = (i : ℕ) (row : Tuple) → i < length new → IsOnlyWriterAt session (t, key_at k (get_or new i row)) l
