use Rattle.std.proofs.Common.{◌<◌, ◌∷◌, ◌++◌, take, drop, length, arith, sym, ap, ◌∙◌, add-one}
use Rattle.std.proofs.lemmas.List.{set_split}
use Rattle.marked_lists.proofs.trail.put.Goals as goal

pub returns-clause-items : goal.returns-clause-items
returns-clause-items g c =
    let items = c.args.items.now.items in
    let place = c.args.place in
    let inside : place < length items = omega arith in
    set_split items place c.args.value inside ∙ ap (λ n. take place items ++ c.args.value ∷ drop n items) (sym (add-one place))
