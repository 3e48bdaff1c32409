use Rattle.std.proofs.Common.{◌≡◌, Option, Some, None, refl, sym, ◌∙◌, subst, ◌<◌, ◌^◌, arith}
use Rattle.std.specs.Prelude.{option_map}
use Rattle.std.specs.Option.{is_some}
use Rattle.order_classes.specs.Numbers.{IsNumberOf}
use Rattle.order_classes.specs.declared.shows.Shows.{Shows}
use Rattle.spec_classes.specs.Classes.{ShowsAt}
use Rattle.class_rows.specs.Telling.{has_letter, orders_with, totals_by, AreAdded, AreRowsOf}
use Rattle.class_rows.proofs.Passes.{passing-added}
use Rattle.class_rows.proofs.Told.{all-told, orders-few}
use Rattle.class_rows.proofs.classing.classed.Goals as goal

-- a map leaves something where there was something
is-some-mapped : {A B : Type 0} (f : A → B) (o : Option A) → is_some (option_map f o) ≡ is_some o
is-some-mapped f None = refl
is-some-mapped f (Some a) = refl

pub rows_of-requires : goal.rows_of-requires
rows_of-requires c =
    let x = c.requires in
    let ps = c.in_ok-passing.passing.items in
    let added = passing-added x.0 x.1 x.2 c.args.asked.filters.now c.args.found.now.classes.now ps x.3.classes (c.in_ok-passing.ensures x.1 x.2 x.3.serial) in
    (x.0, x.1, x.2, subst (AreAdded x.0 x.1 x.2) (sym c.as_slice.ensures.value) added)

pub totals_of-totals-requires : goal.totals_of-totals-requires
totals_of-totals-requires c letter =
    let x = c.requires in
    let ps = c.in_ok-passing.passing.items in
    let added = passing-added x.0 x.1 x.2 c.args.asked.filters.now c.args.found.now.classes.now ps x.3.classes (c.in_ok-passing.ensures x.1 x.2 x.3.serial) in
    let few = orders-few (has_letter letter) ps in
    let all = added.few in
    subst (λ qs. orders_with (has_letter letter) qs < 2 ^ 64) (sym c.as_slice-2.ensures.value) (omega (arith, few, all))

pub returns : goal.returns
returns c kind tables run is =
    let found = c.args.found.now in
    let filters = c.args.asked.filters.now in
    let by = c.args.asked.by in
    let ps = c.in_ok-passing.passing.items in
    let passing = c.in_ok-passing.ensures tables run is.serial in
    let added = passing-added kind tables run filters found.classes.now ps is.classes passing in
    let value = c.as_slice.ensures.value in
    let rows = c.in_ok-rows.ensures kind tables run (subst (AreAdded kind tables run) (sym value) added) in
    let serial = c.is_some.ensures ∙ sym (is-some-mapped (λ s. s.now) found.serial) in
    let totals = c.totals_of-totals.ensures ∙ (λ i. totals_by (serial i) (c.as_slice-2.ensures.value i) (c.as_slice-3.ensures.value i)) in
    all-told kind tables run filters by found.classes.now is.classes ps passing added (option_map (λ s. s.now) found.serial) is.serial rows.0
    (record { orders = c.orders_of.result; totals = c.totals_of-totals.result; rows = c.in_ok-rows.rows })
    (subst (IsNumberOf (λ rank. (s : Shows) × ShowsAt kind tables run rank s)) (sym c.orders_of.ensures)
    (c.counts_add_up.ensures kind tables run found.classes.now is.classes))
    (subst (λ qs. AreRowsOf kind tables run by qs rows.0 c.in_ok-rows.rows.items) value rows.1) totals

pub orders_of-requires : goal.orders_of-requires
orders_of-requires c = c.requires.3.classes.few
