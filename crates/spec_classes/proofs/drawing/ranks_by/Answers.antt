use Rattle.std.proofs.Common.{◌≡◌, subst, arith}
use Rattle.spec_classes.proofs.Drawn.{AreBegun, drawn-all, drawn-more}
use Rattle.spec_classes.proofs.drawing.ranks_by.Goals as goal

pub loop-preserved : goal.loop-preserved
loop-preserved c =
    drawn-more c.args.words c.args.bound c.args.count c.loop.words c.loop.counter c.next_word.result c.next_word.new.self c.loop.ranks.items c.push.new.self.items c.loop-test.true
    c.next_word.ensures c.in_ok-push.ensures.items c.loop.invariant

pub returns : goal.returns
returns c =
    let end : c.loop.counter ≡ c.args.count = (let le = c.loop.auto.counter-end in let past = c.loop-test.false in omega (arith, le, past)) in
    drawn-all c.args.words c.args.bound c.args.count c.loop.words c.loop.ranks.items
    (subst (λ n. AreBegun c.args.words c.args.bound c.args.count c.loop.words n c.loop.ranks.items) end c.loop.invariant)
