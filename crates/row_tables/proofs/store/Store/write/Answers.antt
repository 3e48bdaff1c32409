use Rattle.std.proofs.Common.{◌≡◌, ◌≢◌, ℕ, sym, ap, ◌∙◌, subst, None}
use Rattle.std.specs.Option.{unwrap_or}
use Rattle.finite_maps.specs.Map.{get, insert, empty}
use Rattle.lock_modes.specs.RowPlace.{RowPlace}
use Rattle.row_tables.specs.Overlay.{laid}
use Rattle.row_tables.specs.Layers.{IsOnlyWriterAt, wrote}
use Rattle.row_tables.specs.Undo.{AreApart, before, noted, layers}
use Rattle.row_tables.proofs.StoreLemmas.{only-before, new-apart, wrote-layers, on_err}
use Rattle.row_tables.proofs.store.Store.write.Goals as goal

pub invariant_of-self : goal.invariant_of-self
invariant_of-self c = subst AreApart (sym c.in_err-put.ensures.err) c.self.invariant

pub invariant_of-self-2 : goal.invariant_of-self-2
invariant_of-self-2 c =
    let rows = c.self.inside.rows in
    let undo = c.self.inside.undo in
    let place : RowPlace = (c.args.table, c.args.key) in
    let alone : (other : ℕ) → other ≢ c.args.session → before undo other place ≡ None =
    only-before rows undo c.args.session place (subst (IsOnlyWriterAt c.args.session place) (sym c.self.view_is) c.requires) in
    let lists : c.put.new.self ≡ insert undo c.args.session (noted place rows (unwrap_or (get undo c.args.session) empty)) =
    c.in_ok-put.ensures.ok
    ∙ ap (insert undo c.args.session) (c.in_ok-rows.ensures.list
    ∙ ap (λ (p : RowPlace). noted p rows (unwrap_or (get undo c.args.session) empty)) c.new-place.ensures) in
    subst AreApart (sym lists) (new-apart rows undo c.args.session place c.args.row c.self.invariant alone)

-- no list is put, so the layers are those before
pub returns-in_err-put-clause-err : goal.returns-in_err-put-clause-err
returns-in_err-put-clause-err c = on_err c.from_residual-in_err-put.result (ap (layers c.self.inside.rows) c.in_err-put.ensures.err ∙ c.self.view_is)

-- the place is noted and what is left there stands in place
pub returns-clause-ok : goal.returns-clause-ok
returns-clause-ok c =
    let rows = c.self.inside.rows in
    let undo = c.self.inside.undo in
    let place : RowPlace = (c.args.table, c.args.key) in
    let alone : (other : ℕ) → other ≢ c.args.session → before undo other place ≡ None =
    only-before rows undo c.args.session place (subst (IsOnlyWriterAt c.args.session place) (sym c.self.view_is) c.requires) in
    let lists : c.put.new.self ≡ insert undo c.args.session (noted place rows (unwrap_or (get undo c.args.session) empty)) =
    c.in_ok-put.ensures.ok
    ∙ ap (insert undo c.args.session) (c.in_ok-rows.ensures.list
    ∙ ap (λ (p : RowPlace). noted p rows (unwrap_or (get undo c.args.session) empty)) c.new-place.ensures) in
    let in_place : c.in_ok-rows.rows ≡ laid place c.args.row rows = c.in_ok-rows.ensures.rows ∙ λ i. laid (c.new-place.ensures i) (c.new.ensures i) rows in
    (λ i. layers (in_place i) (lists i))
    ∙ wrote-layers rows undo c.args.session place c.args.row c.self.invariant alone
    ∙ ap (wrote c.args.session place c.args.row) c.self.view_is
