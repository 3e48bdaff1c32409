use Rattle.std.proofs.Common.{sym, ◌∙◌, subst, ◌+◌, ◌<◌, ◌++◌, ◌∷◌, [], take}
use Rattle.std.proofs.lemmas.List.{take_more}
use Rattle.fact_books.specs.Tables.{Names}
use Rattle.fact_books.proofs.TableLemmas.{Names-push, Names-more, Extends-trans}
use Rattle.fact_books.proofs.table.Table.numbers.Goals as goal

pub loop-n-preserved : goal.loop-n-preserved
loop-n-preserved c =
    let given = c.in_ok-number.ensures in
    let t = take_more c.args.more.now c.loop-n.n [] (subst (λ size. c.loop-n.n < size) c.len-n-end.ensures c.loop-n-test.true) in (
      subst (λ ns. Names c.number.new.self ns (take (c.loop-n.n + 1) c.args.more.now)) (sym c.in_ok-push.ensures.items)
          (subst (λ os. Names c.number.new.self (c.loop-n.all.items ++ c.in_ok-number.field-0 ∷ []) os) (sym t)
          (Names-push _ _ _ _ _ (Names-more _ _ _ _ given.extends c.loop-n.invariant.0) given.bound (given.at ∙ c.get.ensures))),
      Extends-trans _ _ _ c.loop-n.invariant.1 given.extends,
    )
