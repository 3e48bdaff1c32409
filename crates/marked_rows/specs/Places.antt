-- The places that were ever written, each with the number of its cell. No clause of `MarkedRows` cites this module.
use Rattle.std.specs.Prelude.{◌≡◌, ◌≢◌, ◌<◌, ◌≤◌, ◌⊎◌, ℕ, suc, ◌+◌, List, [], ◌∷◌, ◌++◌, length, map, get_or, slice_get, All, Some}
use Rattle.std.specs.Option.{option_map}
use Rattle.std.specs.declared.cmp.Ordering.{Ordering}
use Rattle.std.specs.declared.cmp.Ordering.TheVariants.{Less}
use Rattle.std.specs.List.Sorted.{IsStrictlySortedBy}
use Rattle.lock_modes.specs.RowPlace.{RowPlace}
use Rattle.lock_modes.specs.Value.{value_cmp}
use Rattle.lock_modes.specs.declared.value.Value.{Value}
use Rattle.marked_rows.specs.declared.places.KeyedCell.{KeyedCell}

-- places with the numbers of their cells, and the number that is next
pub record Index : Type 0 where
  pub entries : List (RowPlace × ℕ)
  pub next : ℕ

-- the keys of a table as places
abbrev pub placed : ℕ → List KeyedCell → List (RowPlace × ℕ)
placed table es = map (λ (e : KeyedCell). let p : RowPlace × ℕ = ((table, e.key), e.cell) in p) es

-- the places of tables from this number on, table behind table
abbrev pub placed_from : ℕ → List (List KeyedCell) → List (RowPlace × ℕ)
placed_from table [] = []
placed_from table (es ∷ rest) = placed table es ++ placed_from (suc table) rest

abbrev pub keys_of : List KeyedCell → List Value
keys_of es = map (λ (e : KeyedCell). e.key) es

-- ---- which places are there

-- the place is not there
abbrev pub IsAbsent : RowPlace → List (RowPlace × ℕ) → Type 0
IsAbsent p [] = Unit {0}
IsAbsent p (e ∷ es) = (p ≢ e.0) × IsAbsent p es

-- the place is there, and this is the number of its cell
abbrev pub IsPlaceOf : List (RowPlace × ℕ) → RowPlace → ℕ → Type 0
IsPlaceOf [] p n = ⊥
IsPlaceOf (e ∷ es) p n = ((e.0 ≡ p) × (e.1 ≡ n)) ⊎ IsPlaceOf es p n

-- no place has the cell
abbrev pub IsFree : ℕ → List (RowPlace × ℕ) → Type 0
IsFree n [] = Unit {0}
IsFree n (e ∷ es) = (n ≢ e.1) × IsFree n es

-- no place is there twice, and no cell is that of two
abbrev pub AreApart : List (RowPlace × ℕ) → Type 0
AreApart [] = Unit {0}
AreApart (e ∷ es) = IsAbsent e.0 es × IsFree e.1 es × AreApart es

-- the cell's number is less
abbrev pub IsBefore : ℕ → RowPlace × ℕ → Type 0
IsBefore next e = e.1 < next

-- one place more, with its cell
pub record HasMore (p : RowPlace) (n : ℕ) (old new : List (RowPlace × ℕ)) : Type 0 where
  pub front : List (RowPlace × ℕ)
  pub back : List (RowPlace × ℕ)
  pub was : old ≡ front ++ back
  pub is : new ≡ front ++ (p, n) ∷ back

-- one place more, which was not there, and whose cell is the next one
pub record IsMore (p : RowPlace) (old new : Index) : Type 0 where
  pub more : HasMore p old.next old.entries new.entries
  pub absent : IsAbsent p old.entries
  pub next : new.next ≡ old.next + 1

-- the same places, or one more
abbrev pub IsGrown : RowPlace → Index → Index → Type 0
IsGrown p old new = (new ≡ old) ⊎ IsMore p old new

-- ---- keys in order

abbrev pub key_cmp : KeyedCell → KeyedCell → Ordering
key_cmp a b = value_cmp a.key b.key

-- the keys of each table rise
abbrev pub AllRise : List (List KeyedCell) → Type 0
AllRise tables = All (IsStrictlySortedBy key_cmp) tables

-- it is the index of the key
abbrev pub IsIndexOf : List KeyedCell → Value → ℕ → Type 0
IsIndexOf es key index = option_map (λ (e : KeyedCell). e.key) (slice_get es index) ≡ Some key

-- the key is not there, and would stand at the index
pub record IsGap (es : List KeyedCell) (key : Value) (index : ℕ) : Type 0 where
  pub inside : index ≤ length es
  pub before : (j : ℕ) (d : KeyedCell) → j < index → value_cmp (get_or es j d).key key ≡ Less
  pub behind : (j : ℕ) (d : KeyedCell) → index ≤ j → j < length es → value_cmp key (get_or es j d).key ≡ Less
