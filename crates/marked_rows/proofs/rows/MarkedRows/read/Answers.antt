use Rattle.std.proofs.Common.{◌≡◌, ◌∙◌, ap, get_or, None, Some, subst, sym}
use Rattle.std.specs.Option.{option_copied}
use Rattle.finite_maps.specs.Map.{get}
use Rattle.lock_modes.specs.RowPlace.{RowPlace}
use Rattle.row_tables.specs.Layers.{sight}
use Rattle.marked_rows.specs.Cells.{MarkedRows, blank, row_with, seen}
use Rattle.marked_rows.proofs.ChangeLemmas.{read-cell, read-none, read-number}
use Rattle.marked_rows.proofs.rows.MarkedRows.read.Goals as goal

pub returns-in_err-place : goal.returns-in_err-place
returns-in_err-place c =
    let i = c.self.inside in
    let p : RowPlace = (c.args.table, c.args.key.now) in
    let none = read-none i.places i.rows i.cells i.written c.self.invariant c.args.session p c.in_err-place.ensures in
    ap option_copied c.from_residual.ensures ∙ sym (subst (λ (m : MarkedRows). get (sight c.args.session m.now) p ≡ None) c.self.view_is none)

pub returns-in_err-number : goal.returns-in_err-number
returns-in_err-number c =
    let i = c.self.inside in
    let s = c.args.session in
    let p : RowPlace = (c.args.table, c.args.key.now) in
    let n = c.in_ok-place.place in
    let row = read-cell i.places i.rows i.cells i.written c.self.invariant s p n c.in_ok-place.ensures in
    let nothing = c.in_err-number.ensures ∙ ap (λ cs. seen c.args.session (get_or cs n blank)) c.as_slice.ensures in
    let none = row ∙ ap (row_with i.rows.list) (sym nothing) in
    ap option_copied c.from_residual-in_err-number.ensures ∙ sym (subst (λ (m : MarkedRows). get (sight s m.now) p ≡ None) c.self.view_is none)

pub get-requires : goal.get-requires
get-requires c =
    let i = c.self.inside in
    let n = c.in_ok-place.place in
    let number = c.in_ok-number.ensures ∙ ap (λ cs. seen c.args.session (get_or cs n blank)) c.as_slice.ensures in
    read-number i.places i.rows i.cells i.written c.self.invariant c.args.session n c.in_ok-number.number (sym number)

pub returns : goal.returns
returns c =
    let i = c.self.inside in
    let s = c.args.session in
    let p : RowPlace = (c.args.table, c.args.key.now) in
    let n = c.in_ok-place.place in
    let row = read-cell i.places i.rows i.cells i.written c.self.invariant s p n c.in_ok-place.ensures in
    let number = c.in_ok-number.ensures ∙ ap (λ cs. seen c.args.session (get_or cs n blank)) c.as_slice.ensures in
    let found = row ∙ ap (row_with i.rows.list) (sym number) ∙ c.get.ensures in
    sym (subst (λ (m : MarkedRows). get (sight s m.now) p ≡ Some c.get.result.now) c.self.view_is found)
