use Rattle.std.proofs.Common.{sym, ap, ◌∙◌, subst, ◌≡◌, ◌++◌, ◌∷◌, [], cond, length, Some, arith}
use Rattle.std.specs.BTreeMap.{is_at}
use Rattle.lock_queues.specs.Reasons.{Among}
use Rattle.order_classes.specs.Order.{shows_cmp}
use Rattle.order_classes.specs.declared.shows.Shows.{Shows}
use Rattle.different_shows.specs.Different.{AreNumbered}
use Rattle.different_shows.proofs.Numbered.{found, numbered-more}
use Rattle.different_shows.proofs.different.Different.add.Goals as goal

pub invariant_of-self-2 : goal.invariant_of-self-2
invariant_of-self-2 c =
    let s = c.args.shows in
    let all = c.self.inside.shows.items in
    let old = c.self.inside.numbers.entries in
    let new = c.insert.new.self.entries in
    let number : c.in-Ok.number ≡ length all = (let fits = c.in-Ok.ensures in let long = c.self.inside.shows.ok in omega (arith, fits.1, c.len.ensures, long)) in
    let put : (a : Shows) → found new a ≡ cond (is_at (shows_cmp s) a) (Some (length all)) (found old a) =
    (λ a. c.in_ok-insert.ensures.updates.0 a ∙ (λ i. cond (is_at (shows_cmp (c.in_ok-key.ensures i)) a) (Some (number i)) (found old a))) in
    let more : c.push_reserved.new.self.items ≡ all ++ s ∷ [] =
    c.push_reserved.ensures.items ∙ ap (λ xs. xs ++ s ∷ []) c.in_ok-reserve.ensures.items in
    subst (λ xs. AreNumbered xs new) (sym more)
    (numbered-more all old new s c.self.invariant (λ m. c.requires (subst (λ xs. Among s xs) c.self.view_is m)) put)
