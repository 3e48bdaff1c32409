use Rattle.std.proofs.Common.{◌≡◌, sym, ap, ◌∙◌, subst, Some, None}
use Rattle.std.specs.Result.{IfOk}
use Rattle.std.specs.Option.{option_copied}
use Rattle.finite_maps.specs.Map.{get, insert, of_entries, get-of_entries, of_entries-put}
use Rattle.lock_modes.specs.RowPlace.{place_order}
use Rattle.row_tables.specs.Overlay.{Overlay}
use Rattle.row_tables.proofs.RestoreLemmas.{noted-again, noted-first}
use Rattle.row_tables.proofs.undo.UndoList.noting.Goals as goal

pub returns-in-Some : goal.returns-in-Some
returns-in-Some c =
    let is : get c.args.self.now c.args.place.now ≡ Some c.in-Some.field-0.now =
    ap (λ (m : Overlay). get m c.args.place.now) (sym c.self.view_is) ∙ get-of_entries place_order c.self.inside.places c.args.place.now
    ∙ sym c.get.ensures ∙ ap option_copied c.in-Some.is in
    subst (λ (new : Overlay). IfOk c.fork.result (λ list. list
    ≡ new)) (noted-again c.args.place.now c.args.rows.now c.args.self.now c.in-Some.field-0.now is) c.fork.ensures

pub returns-in_ok-places-in-None : goal.returns-in_ok-places-in-None
returns-in_ok-places-in-None c =
    let is : get c.args.self.now c.args.place.now ≡ None =
    ap (λ (m : Overlay). get m c.args.place.now) (sym c.self.view_is) ∙ get-of_entries place_order c.self.inside.places c.args.place.now
    ∙ sym c.get.ensures ∙ ap option_copied c.in-None.is in
    ap (of_entries place_order) c.in_ok-places-in-None.ensures
    ∙ of_entries-put place_order c.in_ok-fork-in-None.field-0 c.in_ok-before-in-None.before c.self.inside.places
    ∙ (λ i. insert (c.self.view_is i) (c.in_ok-fork-in-None.ensures i) (c.in_ok-before-in-None.ensures i))
    ∙ noted-first c.args.place.now c.args.rows.now c.args.self.now is
