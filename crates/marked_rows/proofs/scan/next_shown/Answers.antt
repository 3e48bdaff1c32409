use Rattle.std.proofs.Common.{◌∙◌, arith, sym}
use Rattle.marked_rows.specs.Shown.{numbers_of}
use Rattle.marked_rows.proofs.ScanLemmas.{count-keys, number-key, same-count, unseen-more}
use Rattle.marked_rows.proofs.scan.next_shown.Goals as goal

pub returns-in-Some : goal.returns-in-Some
returns-in-Some c =
    let es = c.args.keys.now in
    let cells = c.args.cells.now in
    let sight = c.args.sight in
    let place = c.loop-place.place in
    let e = c.index-keys-place.result in
    record {
      behind = c.loop-place.auto.place;
      inside = omega (arith, c.loop-place-test.true, same-count sight cells es, count-keys es);
      number = number-key sight cells es place e c.loop-place-test.true ∙ sym c.shown_in.ensures ∙ c.in-Some.is;
      between = c.loop-place.invariant;
    }

pub loop-place-preserved : goal.loop-place-preserved
loop-place-preserved c =
    let es = c.args.keys.now in
    let cells = c.args.cells.now in
    let sight = c.args.sight in
    let place = c.loop-place.place in
    let e = c.index-keys-place.result in
    unseen-more (numbers_of sight cells es) c.args.from place c.loop-place.invariant
    (number-key sight cells es place e c.loop-place-test.true ∙ sym c.shown_in.ensures ∙ c.in_default.is)

pub returns : goal.returns
returns c = λ place low lt. c.loop-place.invariant place low (omega (arith, lt, c.loop-place-test.false))
