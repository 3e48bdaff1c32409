use Rattle.std.proofs.Common.{◌≡◌, refl, sym, ap, subst, suc, ◌∙◌, ◌+◌, length, get_or, slice_get, Some, Vec, Global, arith}
use Rattle.std.proofs.lemmas.Option.{slice_get_read}
use Rattle.class_rows.specs.declared.passing.Passing.{Passing}
use Rattle.class_rows.proofs.Passes.{GoesOn, one-more, none-passes, all-pass, drop-all, passes-so, passes-not}
use Rattle.class_rows.proofs.passing.passing_classes.Goals as goal
use Rattle.class_rows.proofs.passing.passing_classes.Goals.{then-passes+in_ok-push, else-passes}

pub loop-place-preserved : goal.loop-place-preserved
loop-place-preserved c tables run serial =
    let found = c.args.found.now in
    let filters = c.args.filters.now in
    let cs = found.classes.now in
    let l = c.loop-place in
    let is = c.index-found-place.is in
    let class = get_or cs l.place c.index-found-place.result in
    let at : slice_get cs l.place ≡ Some class =
    slice_get_read cs (length cs) l.place c.index-found-place.result refl c.loop-place-test.true is ∙ ap Some is in
    let r = c.in_ok-not_serial.not_serial in
    let told = c.in_ok-not_serial.ensures tables run serial in
    let next : suc l.place ≡ l.place + 1 = omega arith in
    subst (λ i. GoesOn tables run filters cs i c.if-passes.passing.items) next
    (elim c.if-passes.branch [
      | then-passes+in_ok-push w ↦ one-more tables run filters cs l.place class l.passing.items _ c.if-passes.passing.items
          (ap (λ (v : Vec Passing Global). v.items) w.passing-is ∙ w.in_ok-push.ensures.items) at (l.invariant tables run serial) refl
          (passes-so tables run filters class.shows r told (sym w.if-passes.ensures)) (r, told, w.letters_of.ensures)
      | else-passes w ↦ subst (λ (v : Vec Passing Global). GoesOn tables run filters cs (suc l.place) v.items) (sym w.passing-is)
          (none-passes tables run filters cs l.place class l.passing.items at (l.invariant tables run serial) (passes-not tables run filters class.shows r told (sym w.if-passes.ensures)))
    ])

pub returns : goal.returns
returns c tables run serial =
    let found = c.args.found.now in
    all-pass tables run c.args.filters.now found.classes.now c.loop-place.place c.loop-place.passing.items (c.loop-place.invariant tables run serial)
    (drop-all found.classes.now c.loop-place.place (let h = c.loop-place-test.false in omega (arith, h)))
