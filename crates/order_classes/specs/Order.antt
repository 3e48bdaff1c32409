-- The order of what is shown.
use Rattle.std.specs.Prelude.{ℕ, List}
use Rattle.std.specs.declared.cmp.Ordering.{Ordering}
use Rattle.std.specs.Ordering.{nat_cmp, on, then_cmp}
use Rattle.std.specs.Cmp.{IsTotalOrder, nat_cmp_total, on_total, then_total}
use Rattle.std.specs.Cmp.Lexicographic.{slice_cmp, lists_total}
use Rattle.lock_modes.specs.Rows.{Tuple}
use Rattle.lock_modes.specs.Value.{value_cmp, value_total}
use Rattle.lock_modes.specs.declared.value.Value.{Value}
use Rattle.transcripts.specs.Compact.{outcome_cmp, outcome_total}
use Rattle.order_classes.specs.declared.shows.Rest.{Rest}
use Rattle.order_classes.specs.declared.shows.Rest.TheVariants.{HasEnded, IsOpen, HasFailed, StillWaits}
use Rattle.order_classes.specs.declared.shows.Shows.{Shows}

-- rows by their keys, and then by their values
abbrev pub row_cmp : Value × Tuple → Value × Tuple → Ordering
row_cmp = then_cmp (on (λ (e : Value × Tuple). e.0) value_cmp) (on (λ (e : Value × Tuple). e.1) (slice_cmp value_cmp))

abbrev pub rows_cmp : List (Value × Tuple) → List (Value × Tuple) → Ordering
rows_cmp = slice_cmp row_cmp

abbrev pub tables_cmp : List (List (Value × Tuple)) → List (List (Value × Tuple)) → Ordering
tables_cmp = slice_cmp rows_cmp

abbrev pub rest_place : Rest → ℕ
rest_place HasEnded = 0
rest_place IsOpen = 1
rest_place HasFailed = 2
rest_place StillWaits = 3

abbrev pub rest_cmp : Rest → Rest → Ordering
rest_cmp = on rest_place nat_cmp

-- by what is told, then by the rows that are left, and then by how sessions stand
abbrev pub shows_cmp : Shows → Shows → Ordering
shows_cmp =
    then_cmp (on (λ (s : Shows). s.told) outcome_cmp)
    (then_cmp (on (λ (s : Shows). s.left) tables_cmp) (on (λ (s : Shows). s.rests) (slice_cmp rest_cmp)))

rows_total : IsTotalOrder rows_cmp
rows_total =
    lists_total (then_total (on_total (λ (e : Value × Tuple). e.0) value_total) (on_total (λ (e : Value × Tuple). e.1) (lists_total value_total)))

pub shows_total : IsTotalOrder shows_cmp
shows_total =
    then_total (on_total (λ (s : Shows). s.told) outcome_total)
    (then_total (on_total (λ (s : Shows). s.left) (lists_total rows_total))
    (on_total (λ (s : Shows). s.rests) (lists_total (on_total rest_place nat_cmp_total))))
