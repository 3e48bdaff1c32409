use Rattle.std.proofs.Common.{sym, ◌∙◌}
use Rattle.lock_queues.specs.LockTable.{look_at}
use Rattle.lock_queues.proofs.Walking.{no-edge, own-edge}
use Rattle.lock_queues.proofs.told.waits_for.Goals as goal

pub returns-in-None : goal.returns-in-None
returns-in-None c = sym (no-edge (look_at c.args.held.now) c.args.waits.now c.args.session c.args.other (sym c.in-None.ensures))

pub returns-in-Some : goal.returns-in-Some
returns-in-Some c =
    c.holds_up.ensures
    ∙ own-edge (look_at c.args.held.now) c.args.waits.now c.args.session c.args.other c.in-Some.spot c.requires (sym c.in-Some.ensures)
