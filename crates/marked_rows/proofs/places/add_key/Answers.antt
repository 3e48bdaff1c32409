use Rattle.std.proofs.Common.{◌∙◌, ap, arith, map, rules, sym, subst}
use Rattle.std.specs.List.Sorted.{IsStrictlySortedBy}
use Rattle.std.specs.Vec.{vec_items}
use Rattle.std.proofs.lemmas.List.{length-map}
use Rattle.marked_rows.specs.Places.{AllRise, IsGap, IsIndexOf, key_cmp, placed_from}
use Rattle.marked_rows.proofs.PlaceLemmas.{found-there, items-of, more-tables, rise-tables, same-tables, table-rises}
use Rattle.marked_rows.proofs.places.add_key.Goals as goal

pub index_in-requires : goal.index_in-requires
index_in-requires c =
    let vs = c.args.tables.now.items in
    let there = c.as_slice.ensures.value ∙ items-of vs c.args.table c.index_mut-keys.result.now c.requires.there c.index_mut-keys.ensures.value in
    subst (IsStrictlySortedBy key_cmp) (sym there)
    (table-rises (map vec_items vs) c.args.table (let lt = c.requires.there in omega (arith, lt, length-map vs vec_items)) c.requires.rise)

pub unreachable-requires : goal.unreachable-requires
unreachable-requires c =
    let old = c.index_mut-keys.result.now in
    found-there c.args.tables.now.items c.args.table c.requires.there old old c.index_mut-keys.ensures.value c.args.key c.in-Ok.field-0 c.requires.absent
    (subst (λ es. IsIndexOf es c.args.key c.in-Ok.field-0) c.as_slice.ensures.value c.in-Ok.ensures.found)

pub returns-in_err-insert-in-Err-clause-rise : goal.returns-in_err-insert-in-Err-clause-rise
returns-in_err-insert-in-Err-clause-rise c =
    let same = same-tables c.args.tables.now.items c.args.table c.requires.there c.index_mut-keys.result.now c.insert.new.self c.index_mut-keys.ensures.value
    c.in_err-insert-in-Err.ensures.items in
    subst AllRise (sym same) c.requires.rise

pub returns-in_err-insert-in-Err-clause-refused : goal.returns-in_err-insert-in-Err-clause-refused
returns-in_err-insert-in-Err-clause-refused c =
    let same = same-tables c.args.tables.now.items c.args.table c.requires.there c.index_mut-keys.result.now c.insert.new.self c.index_mut-keys.ensures.value
    c.in_err-insert-in-Err.ensures.items in
    let places = ap (placed_from 0) same in
    search (rules, places)

pub returns-clause-rise : goal.returns-clause-rise
returns-clause-rise c =
    let old = c.index_mut-keys.result.now in
    rise-tables c.args.tables.now.items c.args.table c.requires.there old c.insert.new.self c.index_mut-keys.ensures.value c.args.key c.args.cell c.in-Err.index
    c.requires.rise (subst (λ es. IsGap es c.args.key c.in-Err.index) c.as_slice.ensures.value c.in-Err.ensures.gap) c.in_ok-insert-in-Err.ensures.items

pub returns-clause-added : goal.returns-clause-added
returns-clause-added c =
    let old = c.index_mut-keys.result.now in
    more-tables c.args.tables.now.items c.args.table c.requires.there old c.insert.new.self c.index_mut-keys.ensures.value c.args.key c.args.cell c.in-Err.index
    c.in_ok-insert-in-Err.ensures.items
