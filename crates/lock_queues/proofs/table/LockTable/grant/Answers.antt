use Rattle.std.proofs.Common.{◌≡◌, ◌∙◌, subst, sym, ap, ◌==◌, None}
use Rattle.std.specs.List.{find}
use Rattle.finite_maps.specs.Map.{insert}
use Rattle.lock_queues.specs.Locks as locks
use Rattle.lock_queues.specs.LockTable.{Locks, grant}
use Rattle.lock_queues.specs.Sound.{IsSound}
use Rattle.lock_queues.specs.Rules.{IsNext, IsNextOf}
use Rattle.lock_queues.proofs.Keeping.{kept-sound, granted-next, grant-sound, next-found}
use Rattle.lock_queues.proofs.table.LockTable.grant.Goals as goal

pub unreachable-requires : goal.unreachable-requires
unreachable-requires c =
    let l : Locks = record { held = c.self.inside.held; waits = c.self.inside.waits.items } in
    let next = subst (λ (t : Locks). IsNextOf t c.args.session) (sym c.self.view_is) c.requires in
    let found : None ≡ find (λ (w : locks.Wait). w.session == c.args.session) l.waits = c.in_default.ensures
    ∙ ap (find (λ (w : locks.Wait). w.session == c.args.session)) c.deref.ensures.value in
    next-found l c.args.session next.0 c.self.invariant next.1 next.2 found

pub remove_wait-requires : goal.remove_wait-requires
remove_wait-requires c = c.self.invariant.distinct

-- without memory all is as it was
pub invariant_of-self : goal.invariant_of-self
invariant_of-self c = kept-sound _ _ c.in_err-give.ensures.kept c.self.invariant

pub invariant_of-self-2 : goal.invariant_of-self-2
invariant_of-self-2 c =
    let l : Locks = record { held = c.self.inside.held; waits = c.self.inside.waits.items } in
    let i = c.args.session in
    let next = subst (λ (t : Locks). IsNextOf t i) (sym c.self.view_is) c.requires in
    let found = c.in-Some.ensures ∙ ap (find (λ (w : locks.Wait). w.session == i)) c.deref.ensures.value in
    let held = c.in_ok-give.ensures.given ∙ (λ k. insert l.held (i, c.place.ensures k) (c.wanted-mode.ensures k)) in
    let e : ◌≡◌ {A = Locks} (record { held = c.give.new.self; waits = c.remove_wait.new.waits.items }) (grant l next.0) =
    (λ k. record { held = held k; waits = c.remove_wait.ensures k })
    ∙ granted-next l i c.in-Some.wait.now next.0 next.0 c.self.invariant next.1 next.2 next.1 found in
    subst IsSound (sym e) (grant-sound l next.0 c.self.invariant next.1)

pub returns-clause-granted : goal.returns-clause-granted
returns-clause-granted c = λ t other.
    let l : Locks = record { held = c.self.inside.held; waits = c.self.inside.waits.items } in
    let i = c.args.session in
    let next = subst (λ (t : Locks). IsNextOf t i) (sym c.self.view_is) c.requires in
    let found = c.in-Some.ensures ∙ ap (find (λ (w : locks.Wait). w.session == i)) c.deref.ensures.value in
    let held = c.in_ok-give.ensures.given ∙ (λ k. insert l.held (i, c.place.ensures k) (c.wanted-mode.ensures k)) in
    let same = subst (λ (u : Locks). IsNext u t) (sym c.self.view_is) other in
    (λ k. record { held = held k; waits = c.remove_wait.ensures k })
    ∙ granted-next l i c.in-Some.wait.now next.0 t c.self.invariant next.1 next.2 same found ∙ ap (λ u. grant u t) c.self.view_is
