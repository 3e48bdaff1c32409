use Rattle.std.proofs.Common.{◌≡◌, ap, ◌∙◌, subst, true, false, ◌++◌, OnOk}
use Rattle.lock_queues.specs.Locks.{Spot}
use Rattle.lock_queues.specs.LockTable.{look_at}
use Rattle.lock_queues.specs.Reasons.{held_edges, edges_to}
use Rattle.lock_queues.specs.Sides.{side_edges}
use Rattle.lock_queues.proofs.Telling.{session-told}
use Rattle.lock_queues.proofs.want.tell_session.Goals as goal

pub returns : goal.returns
returns c =
    let look = look_at c.args.held.now in
    let b = c.args.session in
    let old = c.args.edges.now.items in
    let s : Spot = record { before = c.spot.inside.before.now; wait = c.spot.inside.wait.now; after = c.spot.inside.after.now } in
    let theirs = c.mode_of-theirs.ensures ∙ ap (look b) c.place.ensures in
    let held = c.in_ok-tell_held.ensures ∙ (λ i. old ++ held_edges b (c.wanted.ensures i) (theirs i)) in
    subst (λ es. OnOk c.tell_ahead-2.result (c.tell_ahead-2.new.edges.items ≡ es))
    (ap (λ es. es ++ side_edges look b s.wait false s.after) c.in_ok-tell_ahead.ensures
    ∙ ap (λ es. (es ++ side_edges look b s.wait true s.before) ++ side_edges look b s.wait false s.after) held
    ∙ session-told look b s old c.if-wait-session.false ∙ ap (λ t. old ++ edges_to look t b) c.spot.view_is) c.tell_ahead-2.ensures
