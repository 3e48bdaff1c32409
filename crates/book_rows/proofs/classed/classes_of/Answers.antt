use Rattle.std.proofs.Common.{◌≡◌, sym, ap, ◌∙◌, refl, subst, arith}
use Rattle.bound_specs.specs.Spec.{SpecFile, ranks}
use Rattle.book_rows.specs.Parts.{AreRowsOf}
use Rattle.book_rows.specs.Totals.{has_letter, totals_by}
use Rattle.book_rows.proofs.SumLemmas.{some-few}
use Rattle.book_rows.proofs.ClassLemmas.{classed, few-orders}
use Rattle.book_rows.proofs.classed.classes_of.Goals as goal

pub totals_of-requires : goal.totals_of-requires
totals_of-requires c letter =
    let rows = c.in_ok-rows.rows.items in
    let are = subst (λ (f : SpecFile). AreRowsOf f.run c.args.told rows) c.requires.spec c.in_ok-rows.ensures in
    let few = few-orders c.args.book.now c.args.told c.requires.told c.classes-classes.ensures.stretched rows are in
    let some = some-few (has_letter letter) rows in
    let all = c.ranks-ranks.ensures ∙ ap (λ (f : SpecFile). ranks f.run) c.requires.spec in
    rw c.as_slice.ensures.value (omega (arith, few, some, all))

pub returns : goal.returns
returns c =
    let rows = c.in_ok-rows.rows.items in
    let are = subst (λ (f : SpecFile). AreRowsOf f.run c.args.told rows) c.requires.spec c.in_ok-rows.ensures in
    classed c.args.book.now c.args.told c.requires.told c.classes-classes.ensures.stretched rows are _
    (c.totals_of.ensures ∙ ap totals_by c.as_slice.ensures.value) refl c.missing.ensures refl
