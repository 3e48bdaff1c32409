use Rattle.std.proofs.Common.{◌≡◌, ◌<◌, ◌∙◌, ap, OnOk, Some, get_or, length, set, subst, sym}
use Rattle.std.proofs.lemmas.Option.{get_or_from_slice_get}
use Rattle.finite_maps.specs.Map.{insert}
use Rattle.lock_modes.specs.declared.resource.Resource.TheVariants.{Table}
use Rattle.marked_lists.specs.Versions.{Versions}
use Rattle.numbered_specs.specs.Numbers.{place_of, resource_of}
use Rattle.marked_modes.specs.Held.{MarkedHolds}
use Rattle.marked_modes.specs.Kept.{holds_of, no_modes, with_mode}
use Rattle.marked_modes.specs.declared.row.ModeRow.{ModeRow}
use Rattle.marked_modes.specs.declared.row.Given.{Given}
use Rattle.marked_modes.proofs.ChangeLemmas.{give-held, give-kept}
use Rattle.marked_modes.proofs.modes.MarkedModes.give.Goals as goal

pub invariant_of-self-2 : goal.invariant_of-self-2
invariant_of-self-2 c =
    let s = c.args.session in
    let rs = c.self.inside.numbers.value.resources in
    let rows : Versions ModeRow = c.self.inside.rows in
    let place = c.place-place.result in
    let inside = subst (λ (m : MarkedHolds). place_of c.args.number < length m.resources) (sym c.self.view_is) c.requires.number in
    let within = subst (λ p. p < length rs) (sym c.place-place.ensures) inside in
    let g : Given = record { session = s; place = place } in
    let row = c.with-row.ensures.row ∙ ap (λ r. with_mode r s (Some c.args.mode)) (sym (get_or_from_slice_get rows.list place c.get.result no_modes c.get.ensures)) in
    let put = subst (λ r. OnOk c.set.result (c.set.new.self ≡ record rows { list = set rows.list place r })) row c.set.ensures.set in
    give-kept rs rows c.self.inside.given c.self.invariant c.set.new.self c.push.new.self g c.args.mode c.set.result within c.in_ok-push.ensures.pushed put
    c.set.ensures.refused

pub returns-clause-given : goal.returns-clause-given
returns-clause-given c =
    let s = c.args.session in
    let number = c.args.number in
    let mode = c.args.mode in
    let rs = c.self.inside.numbers.value.resources in
    let rows : Versions ModeRow = c.self.inside.rows in
    let place = c.place-place.result in
    let inside = subst (λ (m : MarkedHolds). place_of number < length m.resources) (sym c.self.view_is) c.requires.number in
    let within = subst (λ p. p < length rs) (sym c.place-place.ensures) inside in
    let there = get_or_from_slice_get rows.list place c.get.result no_modes c.get.ensures in
    let few = subst (λ (r : ModeRow). s < length r.modes) (sym there) c.with-row.ensures.inside in
    let row = c.with-row.ensures.row ∙ ap (λ r. with_mode r s (Some mode)) (sym there) in
    let put = subst (λ r. OnOk c.set.result (c.set.new.self ≡ record rows { list = set rows.list place r })) row c.set.ensures.set in
    let held = give-held rs rows c.self.inside.given c.self.invariant c.set.new.self place s mode (Table 0) c.set.result within few put in
    let numbered =
    subst (λ p. OnOk c.set.result (holds_of rs c.set.new.self ≡ record (holds_of rs rows) { now = insert (holds_of rs rows).now (s, get_or rs p (Table 0)) mode }))
    c.place-place.ensures held in
    subst (λ (m : MarkedHolds). OnOk c.set.result (holds_of rs c.set.new.self ≡ record m { now = insert m.now (s, resource_of m.resources number) mode }))
    c.self.view_is numbered
