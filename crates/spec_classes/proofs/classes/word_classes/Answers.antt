use Rattle.std.proofs.Common.{◌≤◌, length, sym, subst, arith}
use Rattle.std.proofs.lemmas.Result.{IfOk-weaker}
use Rattle.spec_classes.specs.Tallies.{AreTellable, AreClassesBy}
use Rattle.spec_classes.proofs.Classing.{tellable, are-classes}
use Rattle.spec_classes.proofs.WordTold.{words-told}
use Rattle.spec_classes.proofs.classes.word_classes.Goals as goal

pub told_classes-requires-clause-tellable : goal.told_classes-requires-clause-tellable
told_classes-requires-clause-tellable c =
    let run = c.args.spec.now.run in
    let shown = c.args.found.now.shows in
    let states = c.args.found.now.states.items in
    let few : run.sessions ≤ 8 = omega (arith, c.ready.ensures.few_sessions) in
    let x = c.requires.counted in
    let told = words-told c.args.kind c.args.tables.now run x.0 x.1 c.requires.words c.ranks_are_unique.ensures.orders c.ranks_are_unique.ensures.ranks
    (λ v ks o. c.each_order_has_a_rank.ensures c.args.kind run v ks few o) shown states c.known.ensures x.2 x.3 in
    subst (λ fs. AreTellable c.args.kind run (length shown) fs) (sym c.deref.ensures.value)
    (tellable c.args.kind c.args.tables.now run shown c.ranks_are_unique.ensures.alone states told)

pub returns : goal.returns
returns c =
    let run = c.args.spec.now.run in
    let shown = c.args.found.now.shows in
    let states = c.args.found.now.states.items in
    let few : run.sessions ≤ 8 = omega (arith, c.ready.ensures.few_sessions) in
    let x = c.requires.counted in
    let told = words-told c.args.kind c.args.tables.now run x.0 x.1 c.requires.words c.ranks_are_unique.ensures.orders c.ranks_are_unique.ensures.ranks
    (λ v ks o. c.each_order_has_a_rank.ensures c.args.kind run v ks few o) shown states c.known.ensures x.2 x.3 in
    IfOk-weaker c.told_classes.result _ _
    (λ classes is. are-classes c.args.kind c.args.tables.now run shown c.ranks_are_unique.ensures.alone states classes.items told
    (subst (λ fs. AreClassesBy c.args.kind run shown fs classes.items) c.deref.ensures.value is) c.known.ensures)
    c.told_classes.ensures
