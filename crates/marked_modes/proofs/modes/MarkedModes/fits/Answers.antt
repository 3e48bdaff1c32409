use Rattle.std.proofs.Common.{◌≡◌, ◌<◌, ◌∙◌, ap, ℕ, Some, length, slice_get, subst, sym}
use Rattle.finite_maps.specs.Map.{get}
use Rattle.lock_modes.specs.declared.resource.Resource.TheVariants.{Table}
use Rattle.lock_queues.specs.Locks.{fits_with}
use Rattle.numbered_specs.specs.Numbers.{place_of, resource_of}
use Rattle.marked_modes.specs.Held.{MarkedHolds, mode_in}
use Rattle.marked_modes.proofs.HeldLemmas.{mode-there}
use Rattle.marked_modes.proofs.modes.MarkedModes.fits.Goals as goal

pub returns : goal.returns
returns c =
    let number = c.args.number in
    let rs = c.self.inside.numbers.value.resources in
    let rows = c.self.inside.rows.list in
    let place = place_of number in
    let inside = subst (λ (m : MarkedHolds). place < length m.resources) (sym c.self.view_is) c.requires in
    let there = subst (λ p. slice_get rows p ≡ Some c.get.result) c.place.ensures c.get.ensures in
    let held : (s : ℕ) → get c.args.self.now.now (s, resource_of c.args.self.now.resources number) ≡ mode_in c.get.result s =
    (λ s. subst (λ (m : MarkedHolds). get m.now (s, resource_of m.resources number) ≡ mode_in c.get.result s) c.self.view_is
    (mode-there rs rows place s (Table 0) c.get.result c.self.invariant.rise c.self.invariant.now.count inside there)) in (
      (λ is s ne. ap (fits_with c.args.mode) (held s) ∙ c.fits.ensures.0 is s ne),
      (λ all. c.fits.ensures.1 (λ s ne. ap (fits_with c.args.mode) (sym (held s)) ∙ all s ne)),
    )
