use Rattle.std.proofs.Common.{◌∙◌, ap, sym}
use Rattle.lock_queues.specs.Locks.{waits_now}
use Rattle.marked_locks.specs.Queued.{MarkedTable}
use Rattle.marked_locks.proofs.RingLemmas.{is_among}
use Rattle.marked_locks.proofs.SeenLemmas.{waiting-seen}
use Rattle.marked_locks.proofs.locks.MarkedLocks.waits.Goals as goal

pub returns : goal.returns
returns c =
    c.is_waiting.ensures ∙ ap (λ ws. is_among ws c.args.session) c.as_slice.ensures
    ∙ sym (waiting-seen c.self.inside.modes.resources c.self.inside.waits.list c.args.session)
    ∙ ap (λ (t : MarkedTable). waits_now t.now.waits c.args.session) c.self.view_is
