use Rattle.std.proofs.Common.{sym, ap, ◌∙◌, subst, ◌≡◌, ◌+◌, ◌^◌, ◌<◌, ◌++◌, ◌∷◌, [], length, slice_get, Some, arith}
use Rattle.finite_maps.specs.Map.{insert}
use Rattle.book_stretches.specs.Classes.{AreNumbered}
use Rattle.book_stretches.proofs.Numbered.{numbered-more}
use Rattle.book_stretches.proofs.classes.Classes.add.Goals as goal

pub invariant_of-self-2 : goal.invariant_of-self-2
invariant_of-self-2 c =
    let o = c.args.outcome.now in
    let items = c.self.inside.outcomes.items in
    let by = c.self.inside.numbers in
    let few = c.self.invariant.few in
    let long = c.self.inside.outcomes.ok in
    let fits = c.in-Ok.ensures in
    let number : c.in-Ok.number ≡ length items = omega (arith, fits.1, c.len.ensures, long) in
    let below : length items + 1 < 2 ^ 32 = grind (arith, number, few, c.if-number.false) in
    let base = numbered-more items by o c.self.invariant (λ n e. c.requires n (subst (λ xs. slice_get xs n ≡ Some o) c.self.view_is e)) below in
    let more : c.push_reserved.new.self.items ≡ items ++ o ∷ [] =
    c.push_reserved.ensures.items ∙ ap (λ xs. xs ++ c.again-2.result ∷ []) c.in_ok-reserve.ensures.items ∙ ap (λ z. items ++ z ∷ []) c.again-2.ensures in
    let put : c.put.new.self ≡ insert by o (length items) =
    c.in_ok-put.ensures.ok ∙ ap (λ k. insert by k c.in-Ok.number) c.again.ensures ∙ ap (insert by o) number in
    subst (λ xs. AreNumbered xs c.put.new.self) (sym more) (subst (AreNumbered (items ++ o ∷ [])) (sym put) base)
