use Rattle.std.proofs.Common.{◌≡◌, ◌<◌, ◌∙◌, Some, length, slice_get, subst, sym}
use Rattle.finite_maps.specs.Map.{get}
use Rattle.lock_modes.specs.declared.resource.Resource.TheVariants.{Table}
use Rattle.numbered_specs.specs.Numbers.{place_of, resource_of}
use Rattle.marked_modes.specs.Held.{MarkedHolds}
use Rattle.marked_modes.proofs.HeldLemmas.{mode-there}
use Rattle.marked_modes.proofs.modes.MarkedModes.mode_of.Goals as goal

pub returns : goal.returns
returns c =
    let s = c.args.session in
    let number = c.args.number in
    let rs = c.self.inside.numbers.value.resources in
    let rows = c.self.inside.rows.list in
    let place = place_of number in
    let inside = subst (λ (m : MarkedHolds). place < length m.resources) (sym c.self.view_is) c.requires.number in
    let there = subst (λ p. slice_get rows p ≡ Some c.get.result) c.place.ensures c.get.ensures in
    let held = mode-there rs rows place s (Table 0) c.get.result c.self.invariant.rise c.self.invariant.now.count inside there in
    subst (λ (m : MarkedHolds). c.mode_of.result ≡ get m.now (s, resource_of m.resources number)) c.self.view_is (c.mode_of.ensures ∙ sym held)
