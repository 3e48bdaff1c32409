use Rattle.std.proofs.Common.{ap, ◌∙◌, not, ◌&&◌, false}
use Rattle.std.specs.List.{list_any}
use Rattle.lock_queues.specs.Locks as locks
use Rattle.lock_queues.specs.Queue as queue
use Rattle.lock_queues.specs.LockTable.{look_at}
use Rattle.lock_queues.proofs.Ahead.{first-is}
use Rattle.lock_queues.proofs.queue.Spot.is_first.Goals as goal

pub returns-then-not-is_any_ahead : goal.returns-then-not-is_any_ahead
returns-then-not-is_any_ahead c =
    let look = look_at c.args.held.now in
    let s : locks.Spot = record { before = c.self.inside.before.now; wait = c.self.inside.wait.now; after = c.self.inside.after.now } in
    ap not c.is_any_ahead-then-not-is_any_ahead.ensures
    ∙ ap (λ b. not b && not (list_any (queue.is_ahead look s.wait false) s.after)) c.if-not-is_any_ahead.ensures
    ∙ first-is look s ∙ ap (λ t. locks.is_empty (locks.ahead look t)) c.self.view_is

pub returns-else-not-is_any_ahead : goal.returns-else-not-is_any_ahead
returns-else-not-is_any_ahead c =
    let look = look_at c.args.held.now in
    let s : locks.Spot = record { before = c.self.inside.before.now; wait = c.self.inside.wait.now; after = c.self.inside.after.now } in
    ap not c.if-not-is_any_ahead.false
    ∙ ap (λ b. not b && not (list_any (queue.is_ahead look s.wait false) s.after)) c.if-not-is_any_ahead.ensures
    ∙ first-is look s ∙ ap (λ t. locks.is_empty (locks.ahead look t)) c.self.view_is
