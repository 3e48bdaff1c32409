use Rattle.std.proofs.Common.{subst, sym}
use Rattle.book_format.specs.Numbering.{IsNumber}
use Rattle.book_format.proofs.NumberingLemmas.{numbers-start, numbers-push, numbers-end}
use Rattle.book_format.proofs.one_form.numbers_of.Goals as goal

pub loop-outcome-init : goal.loop-outcome-init
loop-outcome-init c = rw (c.in_ok-numbers.ensures.items) (numbers-start c.args.outcomes.now c.args.named.now)

pub loop-outcome-preserved : goal.loop-outcome-preserved
loop-outcome-preserved c =
    rw (c.in_ok-push.ensures.items)
    (numbers-push c.args.outcomes.now c.args.named.now c.loop-outcome.outcome-index c.loop-outcome.numbers.items c.outcome-item.result _ c.in_ok-number.number
    c.loop-outcome-test.true c.outcome-item.is
    (subst (IsNumber c.args.named.now c.outcome-item.result) (sym c.in_ok-number.ensures) c.number_of.ensures) c.loop-outcome.invariant)

pub returns : goal.returns
returns c =
    numbers-end c.args.outcomes.now c.args.named.now c.loop-outcome.outcome-index c.loop-outcome.numbers.items c.loop-outcome-test.false
    c.loop-outcome.auto.outcome-index-end c.loop-outcome.invariant
