use Rattle.std.proofs.Common.{◌≡◌, ◌∙◌, ◌==◌, ap, sym, Some, None}
use Rattle.std.specs.List.{position}
use Rattle.lock_queues.specs.Locks as locks
use Rattle.lock_queues.proofs.Keeping.{remove-others, absent-others, found-place, absent-place}
use Rattle.lock_queues.proofs.table.remove_wait.Goals as goal

pub returns-in-Some : goal.returns-in-Some
returns-in-Some c =
    let ws = c.args.waits.now.items in
    let i = c.args.session in
    let k = c.in-Some.at in
    let place : position (λ (w : locks.Wait). w.session == i) ws ≡ Some k =
    sym (c.in-Some.ensures ∙ ap (position (λ (w : locks.Wait). w.session == i)) c.deref.ensures.value) in
    let here = found-place i ws k c.remove.result place in
    c.remove.ensures.items ∙ remove-others i ws k c.remove.result here.0 c.requires here.1

pub returns-in_default : goal.returns-in_default
returns-in_default c =
    let ws = c.args.waits.now.items in
    let i = c.args.session in
    let place : position (λ (w : locks.Wait). w.session == i) ws ≡ None =
    sym (c.in_default.ensures ∙ ap (position (λ (w : locks.Wait). w.session == i)) c.deref.ensures.value) in
    absent-others i ws (absent-place (λ (w : locks.Wait). w.session == i) ws place)
