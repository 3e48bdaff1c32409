use Rattle.std.proofs.Common.{◌<◌, ◌≤◌, ◌≡◌, ◌∙◌, arith, length, map, sym, subst}
use Rattle.std.specs.Prelude.{Some, slice_get}
use Rattle.std.specs.List.{Contains}
use Rattle.std.specs.List.Sorted.{IsStrictlySortedBy}
use Rattle.std.specs.Vec.{vec_items}
use Rattle.std.proofs.lemmas.List.{length-map}
use Rattle.marked_rows.specs.Places.{Index, IsAbsent, IsPlaceOf, key_cmp, keys_of}
use Rattle.marked_rows.proofs.PlaceLemmas.{absent-place, items-of, no-items, none-rises, place-there, table-rises}
use Rattle.marked_rows.proofs.places.Places.table.Goals as goal

pub returns-then-table-len-clause-rise : goal.returns-then-table-len-clause-rise
returns-then-table-len-clause-rise c = none-rises

pub returns-then-table-len-clause-absent : goal.returns-then-table-len-clause-absent
returns-then-table-len-clause-absent c key never =
    let tables = map vec_items c.self.inside.tables.items in
    let past : length tables ≤ c.args.table = omega (arith, c.if-table-len.true, c.len.ensures, c.self.inside.tables.ok.0, length-map c.self.inside.tables.items vec_items) in
    subst (λ (x : Index). IsAbsent (c.args.table, key) x.entries) c.self.view_is
    (absent-place tables c.args.table key (λ h. never (subst (λ es. Contains (keys_of es) key) (no-items tables c.args.table past) h)))

pub returns-clause-rise : goal.returns-clause-rise
returns-clause-rise c =
    let vs = c.self.inside.tables.items in
    let tables = map vec_items vs in
    let lt : c.args.table < length vs = omega (arith, c.if-table-len.false, c.len.ensures, c.self.inside.tables.ok.0) in
    let there = c.as_slice.ensures.value ∙ items-of vs c.args.table c.index.result.now lt c.index.ensures in
    subst (IsStrictlySortedBy key_cmp) (sym there) (table-rises tables c.args.table (omega (arith, lt, length-map vs vec_items)) c.self.invariant)

pub returns-clause-there : goal.returns-clause-there
returns-clause-there c index e at =
    let vs = c.self.inside.tables.items in
    let tables = map vec_items vs in
    let lt : c.args.table < length vs = omega (arith, c.if-table-len.false, c.len.ensures, c.self.inside.tables.ok.0) in
    let there = c.as_slice.ensures.value ∙ items-of vs c.args.table c.index.result.now lt c.index.ensures in
    subst (λ (x : Index). IsPlaceOf x.entries (c.args.table, e.key) e.cell) c.self.view_is
    (place-there tables c.args.table index e (subst (λ es. slice_get es index ≡ Some e) there at))

pub returns-clause-absent : goal.returns-clause-absent
returns-clause-absent c key never =
    let vs = c.self.inside.tables.items in
    let tables = map vec_items vs in
    let lt : c.args.table < length vs = omega (arith, c.if-table-len.false, c.len.ensures, c.self.inside.tables.ok.0) in
    let there = c.as_slice.ensures.value ∙ items-of vs c.args.table c.index.result.now lt c.index.ensures in
    subst (λ (x : Index). IsAbsent (c.args.table, key) x.entries) c.self.view_is
    (absent-place tables c.args.table key (λ h. never (subst (λ es. Contains (keys_of es) key) (sym there) h)))
