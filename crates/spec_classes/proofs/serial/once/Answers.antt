use Rattle.std.proofs.Common.{◌∙◌, arith, length-set}
use Rattle.spec_classes.proofs.LeftOrders.{once-more}
use Rattle.spec_classes.proofs.serial.once.Goals as goal

pub loop-session-preserved : goal.loop-session-preserved
loop-session-preserved c =
    let l = c.loop-session.invariant in record {
      long = length-set c.loop-session.left c.loop-session.session 1 ∙ l.long;
      once = once-more c.loop-session.left c.loop-session.session (omega (arith, l.long, c.loop-session-test.true, c.loop-session.auto.session-end, c.requires)) l.once;
    }
