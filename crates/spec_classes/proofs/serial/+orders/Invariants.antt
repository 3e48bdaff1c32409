use Rattle.std.proofs.Common.{◌+◌, ◌*◌}
use Rattle.perm_ranks.specs.Words.{total}
use Rattle.spec_classes.specs.Serial.{IsRun}
use Rattle.spec_classes.proofs.Answering.{IsAnswerBelow}
use Rattle.spec_classes.proofs.serial.+orders.Given as goal

abbrev pub decreases-add_orders : goal.decreases-add_orders
decreases-add_orders l = 3 * total l.left + 2

abbrev pub decreases-add_each : goal.decreases-add_each
decreases-add_each l = 3 * total l.left + 1

abbrev pub decreases-add_behind : goal.decreases-add_behind
decreases-add_behind l = 3 * total l.left + 3

abbrev pub invariant-add_each-loop-session : goal.invariant-add_each-loop-session
invariant-add_each-loop-session l = IsRun l.tables (IsAnswerBelow l.tables l.left l.session) l.fn.world l.fn.answered l.world l.answered
