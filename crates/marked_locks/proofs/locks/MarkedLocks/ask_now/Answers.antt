use Rattle.std.proofs.Common.{◌≡◌, ◌∙◌, ap, false, subst, sym}
use Rattle.finite_maps.specs.Map.{insert}
use Rattle.lock_queues.specs.Locks.{waits_now, wanted}
use Rattle.lock_queues.specs.Rules.{MayHave}
use Rattle.numbered_specs.specs.Numbers.{resource_of}
use Rattle.marked_modes.specs.Held.{MarkedHolds}
use Rattle.marked_locks.specs.Queued.{MarkedTable, locks_of}
use Rattle.marked_locks.proofs.KeepLemmas.{taken-kept}
use Rattle.marked_locks.proofs.locks.MarkedLocks.ask_now.Goals as goal

pub invariant_of-self-then-may_have : goal.invariant_of-self-then-may_have
invariant_of-self-then-may_have c =
    let i = c.args.session in
    let modes : MarkedHolds = c.self.inside.modes in
    let r = resource_of modes.resources c.args.number in
    let free = subst (λ (t : MarkedTable). waits_now t.now.waits i ≡ false) (sym c.self.view_is) c.requires.free in
    let had = subst (λ ws. MayHave (locks_of modes.resources modes.now ws) i r c.args.mode) c.as_slice.ensures (c.may_have.ensures.0 c.if-may_have.true) in
    let mode = c.wanted_mode-wanted.ensures ∙ ap (λ o. wanted o c.args.mode) c.mode_of-own.ensures in
    taken-kept c.tables_stay_sound.ensures modes c.give.new.self c.self.inside.waits c.self.invariant i r c.args.mode
    (c.in_ok-give.ensures.given ∙ ap (λ m. record modes { now = insert modes.now (i, r) m }) mode) free had
