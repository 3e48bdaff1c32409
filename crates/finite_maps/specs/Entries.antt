-- Entries in the order of their keys, as which a map is seen.
use Rattle.std.specs.Prelude.{T, List, [], ◌∷◌, not, cond, Option, Some, None}
use Rattle.std.specs.declared.cmp.Ordering.{Ordering}
use Rattle.std.specs.Ordering.{is_lt, eq_by_cmp}
use Rattle.std.specs.FinMap.Entries.{where_key, is_sorted}

-- the keys rise
abbrev pub IsInOrder : {K V : Type 0} → (K → K → Ordering) → List (K × V) → Type 0
IsInOrder cmp entries = T (is_sorted cmp entries)

-- the entries but for the one at a key
abbrev pub without : {K V : Type 0} → (K → K → Ordering) → K → List (K × V) → List (K × V)
without cmp key entries = where_key cmp (λ other. not (eq_by_cmp cmp key other)) entries

-- the first entry
abbrev pub first : {K V : Type 0} → List (K × V) → Option (K × V)
first [] = None
first (entry ∷ entries) = Some entry

-- the first entry whose key is greater
abbrev pub after : {K V : Type 0} → (K → K → Ordering) → K → List (K × V) → Option (K × V)
after cmp key [] = None
after cmp key (entry ∷ entries) = cond (is_lt (cmp key entry.0)) (Some entry) (after cmp key entries)

-- the entries whose keys are greater
abbrev pub above : {K V : Type 0} → (K → K → Ordering) → K → List (K × V) → List (K × V)
above cmp key entries = where_key cmp (λ other. is_lt (cmp key other)) entries
