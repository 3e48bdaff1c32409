-- What rows that are kept by table, and there by key, stand for.
use Rattle.std.specs.Prelude.{ℕ, not, List, [], ◌∷◌}
use Rattle.std.specs.Ordering.{nat_cmp, eq_by_cmp}
use Rattle.finite_maps.specs.Map.{insert, keep, empty}
use Rattle.lock_modes.specs.declared.value.Value.{Value}
use Rattle.lock_modes.specs.Rows.{Tuple, Rows'}

abbrev pub with_rows : ℕ → List (Value × Tuple) → Rows' → Rows'
with_rows table [] rows = rows
with_rows table (e ∷ es) rows = insert (with_rows table es rows) (table, e.0) e.1

-- the rows with these in place of those of a table
abbrev pub put_rows : ℕ → List (Value × Tuple) → Rows' → Rows'
put_rows table es rows = with_rows table es (keep (λ place. not (eq_by_cmp nat_cmp place.0 table)) rows)

-- the rows of all tables. Of a table that comes twice the first list counts
abbrev pub rows_of_tables : List (ℕ × List (Value × Tuple)) → Rows'
rows_of_tables [] = empty
rows_of_tables (t ∷ ts) = put_rows t.0 t.1 (rows_of_tables ts)
