use Rattle.std.proofs.Common.{◌≡◌, ◌∙◌, subst, sym, ap, false}
use Rattle.finite_maps.specs.Map.{insert}
use Rattle.lock_modes.specs.Resource.{resource_at}
use Rattle.lock_queues.specs.Locks as locks
use Rattle.lock_queues.specs.LockTable.{Locks, taken}
use Rattle.lock_queues.specs.Sound.{IsSound}
use Rattle.lock_queues.specs.Rules.{MayHave}
use Rattle.lock_queues.proofs.Keeping.{kept-sound, taken-sound}
use Rattle.lock_queues.proofs.table.LockTable.ask_now.Goals as goal

-- without memory all is as it was
pub invariant_of-self : goal.invariant_of-self
invariant_of-self c = kept-sound _ _ c.in_err-give.ensures.kept c.self.invariant

pub invariant_of-self-then-may_have : goal.invariant_of-self-then-may_have
invariant_of-self-then-may_have c =
    let l : Locks = record { held = c.self.inside.held; waits = c.self.inside.waits.items } in
    let i = c.args.session in
    let r = resource_at c.args.place in
    let free = subst (λ (t : Locks). locks.waits_now t.waits i ≡ false) (sym c.self.view_is) c.requires in
    let had : MayHave l i r c.args.mode =
    subst (λ ws. MayHave (record { held = l.held; waits = ws }) i r c.args.mode) c.deref.ensures.value (c.may_have.ensures.0 c.if-may_have.true) in
    let mode = c.wanted_mode-wanted.ensures ∙ ap (λ o. locks.wanted o c.args.mode) c.mode_of-own.ensures in
    let held = c.in_ok-give.ensures.given ∙ ap (λ m. insert l.held (i, r) m) mode in
    let e : ◌≡◌ {A = Locks} (taken l i r c.args.mode) (record { held = c.give.new.self; waits = c.self.inside.waits.items }) =
    (λ k. record { held = sym held k; waits = l.waits }) in
    subst IsSound e (taken-sound l i r c.args.mode c.self.invariant free had)
