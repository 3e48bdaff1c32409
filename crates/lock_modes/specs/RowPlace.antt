-- Where a row lies: its table and its key.
use Rattle.std.specs.Prelude.{◌≡◌, ℕ}
use Rattle.std.specs.declared.cmp.Ordering.{Ordering}
use Rattle.std.specs.declared.cmp.Ordering.TheVariants.{Equal}
use Rattle.std.specs.Ordering.{nat_cmp, on, then_cmp}
use Rattle.std.specs.Cmp.{IsTotalOrder, nat_cmp_total, on_total, then_total}
use Rattle.std.specs.FinMap.{nat_cmp-IsAntisymmetric}
use Rattle.finite_maps.specs.Map.{Order}
use Rattle.lock_modes.specs.Value.{value_cmp, value_total, value_same}
use Rattle.lock_modes.specs.Resource.{both_equal}
use Rattle.lock_modes.specs.declared.value.Value.{Value}

-- a table and a key
abbrev pub RowPlace : Type 0
RowPlace = ℕ × Value

-- by table, and there by key
abbrev pub place_cmp : RowPlace → RowPlace → Ordering
place_cmp = then_cmp (on (λ (p : RowPlace). p.0) nat_cmp) (on (λ (p : RowPlace). p.1) value_cmp)

-- places that tie are one
pub place_same : (p q : RowPlace) → place_cmp p q ≡ Equal → p ≡ q
place_same p q e =
    let both = both_equal (nat_cmp p.0 q.0) _ e in
    let table = nat_cmp-IsAntisymmetric _ _ both.0 in
    let key = value_same _ _ both.1 in
    λ i. (table i, key i)

pub place_total : IsTotalOrder place_cmp
place_total = then_total (on_total (λ (p : RowPlace). p.0) nat_cmp_total) (on_total (λ (p : RowPlace). p.1) value_total)

-- places as keys of a finite map
abbrev pub place_order : Order RowPlace
place_order = record { cmp = place_cmp; total = place_total; same = place_same }
