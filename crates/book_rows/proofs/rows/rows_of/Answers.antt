use Rattle.std.proofs.Common.{◌≡◌, ◌<◌, refl, sym, ap, ◌∙◌, subst, length, Some, arith}
use Rattle.std.specs.List.{slice_get}
use Rattle.std.proofs.lemmas.Option.{slice_get_read}
use Rattle.class_stretches.specs.declared.tally.Tally.{Tally}
use Rattle.bound_specs.specs.Spec.{ranks}
use Rattle.class_stretches.specs.Stretches.{least_of, runs_with, tally_of}
use Rattle.class_stretches.proofs.Groups.{least-inside}
use Rattle.book_rows.specs.Parts.{IsRowOf}
use Rattle.book_rows.proofs.RowLemmas.{rows-next}
use Rattle.book_rows.proofs.rows.rows_of.Goals as goal

pub row_of-requires : goal.row_of-requires
row_of-requires c =
    let tallies = c.in_ok-tallies.tallies in
    let place = c.loop-place.place in
    let stretches = c.args.told.now.stretches in
    let inside : place < stretches.classes = omega (arith, c.loop-place-test.true, c.as_slice-outcomes.ensures.len, c.requires.many) in
    let listed : place < length tallies.items = omega (arith, inside, c.in_ok-tallies.ensures.all) in
    let read = slice_get_read tallies.items (length tallies.items) place c.index.result.now refl listed c.index.ensures in
    let same : c.index.result.now ≡ tally_of (runs_with (Some place) 0 stretches.list) =
    (let e : Some c.index.result.now ≡ Some (tally_of (runs_with (Some place) 0 stretches.list)) = sym read ∙ c.in_ok-tallies.ensures.each place inside in cc) in
    let least = least-inside stretches place c.classes-classes.ensures.stretched inside in
    subst (λ (t : Tally). t.least < ranks c.args.spec.now.run) (sym same)
    (subst (λ e. least_of (runs_with (Some place) 0 stretches.list) < e) c.requires.all least)

pub loop-place-preserved : goal.loop-place-preserved
loop-place-preserved c =
    let tallies = c.in_ok-tallies.tallies in
    let place = c.loop-place.place in
    let stretches = c.args.told.now.stretches in
    let spec = c.args.spec.now.run in
    let inside : place < stretches.classes = omega (arith, c.loop-place-test.true, c.as_slice-outcomes.ensures.len, c.requires.many) in
    let listed : place < length tallies.items = omega (arith, inside, c.in_ok-tallies.ensures.all) in
    let read = slice_get_read tallies.items (length tallies.items) place c.index.result.now refl listed c.index.ensures in
    let same : c.index.result.now ≡ tally_of (runs_with (Some place) 0 stretches.list) =
    (let e : Some c.index.result.now ≡ Some (tally_of (runs_with (Some place) 0 stretches.list)) = sym read ∙ c.in_ok-tallies.ensures.each place inside in cc) in
    let outcomes = c.as_slice-outcomes.result.now in
    let told = slice_get_read outcomes (length outcomes) place c.index-outcomes-place.result refl c.loop-place-test.true c.index-outcomes-place.is in
    let row = subst (λ t. IsRowOf spec t c.index-outcomes-place.result c.in_ok-row.row) same c.in_ok-row.ensures in
    rw c.in_ok-push.ensures.items
    (rows-next spec c.args.told.now place c.loop-place.rows.items c.in_ok-row.row c.index-outcomes-place.result c.loop-place.invariant
    (subst (λ os. slice_get os place ≡ Some c.index-outcomes-place.result) c.as_slice-outcomes.ensures.value told) row)
