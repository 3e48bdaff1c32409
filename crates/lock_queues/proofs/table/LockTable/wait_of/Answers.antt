use Rattle.std.proofs.Common.{Some, ap, ◌∙◌, ◌==◌}
use Rattle.std.specs.List.{find}
use Rattle.std.specs.Option.{option_map}
use Rattle.lock_queues.specs.Locks.{Wait, wanted_by}
use Rattle.lock_queues.specs.LockTable.{look_at}
use Rattle.lock_queues.specs.Rules.{wait_of}
use Rattle.lock_queues.proofs.table.LockTable.wait_of.Goals as goal

pub returns-in-Some : goal.returns-in-Some
returns-in-Some c =
    let found = c.in-Some.ensures ∙ ap (find (λ (w : Wait). w.session == c.args.session)) c.deref.ensures.value in
    (λ i. Some (c.place.ensures i, c.wanted.ensures i)) ∙ ap (option_map (λ (w : Wait). (w.resource, wanted_by (look_at c.self.inside.held) w))) found
    ∙ ap (λ t. wait_of t c.args.session) c.self.view_is
