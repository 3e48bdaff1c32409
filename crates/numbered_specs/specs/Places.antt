-- Where a statement may leave rows.
use Rattle.std.specs.Prelude.{◌≡◌, ℕ, ⊤, All, ◌⊎◌, Some, None, is_some, true}
use Rattle.std.specs.List.{Contains}
use Rattle.finite_maps.specs.Map.{get}
use Rattle.lock_modes.specs.RowPlace.{RowPlace}
use Rattle.lock_modes.specs.Rows.{Rows', Write}
use Rattle.lock_modes.specs.declared.resource.Resource.TheVariants.{Row as RowOf}
use Rattle.bound_statements.specs.declared.statement.Bound.{Bound}
use Rattle.bound_statements.specs.declared.statement.Bound.TheVariants.{Select, Insert, Update, Delete, Begin, Commit, Rollback, Lock, SetVariable}
use Rattle.statement_evaluation.specs.Effect.{Effect, Gives, Faults, effect}
use Rattle.bound_specs.specs.Spec.{Spec}
use Rattle.numbered_specs.specs.declared.request.ResourceNumber.{ResourceNumber}
use Rattle.numbered_specs.specs.Numbers.{asked_by, place_of, resource_of, HasNumber, IsNumbering, Numbers}

-- the statement adds rows to this table, which has no key
abbrev pub AddsTo : Bound → ℕ → Type 0
AddsTo (Insert t None rows) n = t ≡ n
AddsTo (Insert t (Some k) rows) n = ⊥
AddsTo (Select t k c by o l) n = ⊥
AddsTo (Update t k a c) n = ⊥
AddsTo (Delete t k c) n = ⊥
AddsTo (Lock t m w) n = ⊥
AddsTo (Begin level) n = ⊥
AddsTo Commit n = ⊥
AddsTo Rollback n = ⊥
AddsTo SetVariable n = ⊥

-- a row lies there already, or the statement has asked for its key, or it adds rows to the place's table
abbrev pub IsKnownPlace : Bound → Rows' → RowPlace → Type 0
IsKnownPlace st rows p = (is_some (get rows p) ≡ true) ⊎ (Contains (asked_by st) (RowOf p.0 p.1) ⊎ AddsTo st p.0)

-- where the statement has this effect on the rows, it writes at known places alone
abbrev pub WritesKnown : Bound → Rows' → Effect → Type 0
WritesKnown st rows (Gives events writes) = All (λ (w : Write). IsKnownPlace st rows w.place) writes
WritesKnown st rows (Faults f) = ⊤

-- a statement leaves rows at known places alone
abbrev pub EachWritesKnown : Type 0
EachWritesKnown = (st : Bound) (rows : Rows') → WritesKnown st rows (effect st rows)

-- different numbers are different resources
abbrev pub NumbersAreApart : Type 0
NumbersAreApart = (spec : Spec) (numbers : Numbers) → IsNumbering spec numbers → (i j : ResourceNumber) → HasNumber numbers.resources i → HasNumber numbers.resources j
    → resource_of numbers.resources i ≡ resource_of numbers.resources j → place_of i ≡ place_of j
