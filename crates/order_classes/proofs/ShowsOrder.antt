-- What is shown, told apart by its order: only what is the same ties.
use Rattle.std.proofs.Common.{◌≡◌, refl, sym, ap, ◌∙◌, ℕ, zero, suc, true}
use Rattle.std.specs.Ordering.{is_eq}
use Rattle.std.specs.declared.cmp.Ordering.{Ordering}
use Rattle.std.specs.declared.cmp.Ordering.TheVariants.{Less, Equal, Greater}
use Rattle.std.specs.FinMap.{IsAntisymmetric, nat_cmp-IsAntisymmetric, slice_cmp-IsAntisymmetric}
use Rattle.lock_modes.specs.Resource.{both_equal}
use Rattle.lock_modes.specs.Value.{value_same}
use Rattle.transcripts.proofs.OutcomeOrder.{outcome_same}
use Rattle.order_classes.specs.declared.shows.Rest.{Rest}
use Rattle.order_classes.specs.declared.shows.Rest.TheVariants.{HasEnded, IsOpen, HasFailed, StillWaits}
use Rattle.order_classes.specs.Order.{row_cmp, tables_cmp, rest_cmp, rest_place, shows_cmp}

row_same : IsAntisymmetric row_cmp
row_same p q e =
    let both = both_equal _ _ e in
    let key = value_same _ _ both.0 in
    let values = slice_cmp-IsAntisymmetric value_same _ _ both.1 in
    λ i. (key i, values i)

abbrev rest_at : ℕ → Rest
rest_at zero = HasEnded
rest_at (suc zero) = IsOpen
rest_at (suc (suc zero)) = HasFailed
rest_at n = StillWaits

at-place : (r : Rest) → rest_at (rest_place r) ≡ r
at-place HasEnded = refl
at-place IsOpen = refl
at-place HasFailed = refl
at-place StillWaits = refl

rest_same : IsAntisymmetric rest_cmp
rest_same a b e = sym (at-place a) ∙ ap rest_at (nat_cmp-IsAntisymmetric _ _ e) ∙ at-place b

pub tables_same : IsAntisymmetric tables_cmp
tables_same = slice_cmp-IsAntisymmetric (slice_cmp-IsAntisymmetric row_same)

pub from-equal : (r : Ordering) → is_eq r ≡ true → r ≡ Equal
from-equal Less h = cc
from-equal Equal h = refl
from-equal Greater h = cc

pub shows_same : IsAntisymmetric shows_cmp
shows_same a b e =
    let both = both_equal _ _ e in
    let others = both_equal _ _ both.1 in
    let told = outcome_same _ _ both.0 in
    let left = tables_same _ _ others.0 in
    let rests = slice_cmp-IsAntisymmetric rest_same _ _ others.1 in
    λ i. record { told = told i; left = left i; rests = rests i }
