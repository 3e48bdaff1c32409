use Rattle.std.proofs.Common.{sym}
use Rattle.lock_queues.proofs.Telling.{spot-absent, spot-there}
use Rattle.lock_queues.proofs.queue.find_spot.Goals as goal

pub returns-in-None : goal.returns-in-None
returns-in-None c = sym (spot-absent c.args.session c.args.waits.now (sym c.in-None.ensures))

pub returns-in-Some : goal.returns-in-Some
returns-in-Some c =
    sym (spot-there c.args.session c.args.waits.now c.in-Some.index c.at.result (sym c.in-Some.ensures) c.at.ensures.there c.at.ensures.place)
