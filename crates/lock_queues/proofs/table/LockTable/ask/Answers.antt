use Rattle.std.proofs.Common.{◌≡◌, ◌∙◌, subst, sym, ap, false, [], ◌∷◌, ◌++◌}
use Rattle.std.proofs.lemmas.Bool.{both_ways}
use Rattle.lock_modes.specs.Resource.{resource_at}
use Rattle.lock_queues.specs.Locks as locks
use Rattle.lock_queues.specs.LockTable.{Locks, queued}
use Rattle.lock_queues.specs.Sound.{IsSound}
use Rattle.lock_queues.specs.Rules.{IsInRing}
use Rattle.lock_queues.proofs.Keeping.{queued-sound, waits-no-more}
use Rattle.lock_queues.proofs.table.LockTable.ask.Goals as goal

pub invariant_of-self-else-is_in_ring : goal.invariant_of-self-else-is_in_ring
invariant_of-self-else-is_in_ring c =
    let l : Locks = record { held = c.self.inside.held; waits = c.self.inside.waits.items } in
    let i = c.args.session in
    let r = resource_at c.args.place in
    let free : locks.waits_now l.waits i ≡ false =
    subst (λ (t : Locks). locks.waits_now t.waits i ≡ false) (sym c.in_ok-ask_now.ensures.change ∙ sym c.self.view_is)
    (waits-no-more c.args.self.now i r c.args.mode c.in_ok-ask_now.field-0 c.requires) in
    let queue : c.push.new.self.items ≡ (queued l i r c.args.mode).waits =
    c.in_ok-push.ensures.items ∙ ap (λ q. l.waits ++ record { session = i; resource = q; mode = c.args.mode } ∷ []) c.in_ok-resource.ensures in
    let none : IsInRing (queued l i r c.args.mode) i → ⊥ =
    (λ ring. both_ways c.is_in_ring.result c.if-is_in_ring.false (c.is_in_ring.ensures.1 (subst (λ ws. IsInRing (record {
      held = l.held;
      waits =
          ws;
    }) i) (sym queue ∙ sym c.deref.ensures.value) ring))) in
    let e : ◌≡◌ {A = Locks} (queued l i r c.args.mode) (record { held = c.self.inside.held; waits = c.push.new.self.items }) =
    (λ k. record { held = l.held; waits = sym queue k }) in
    subst IsSound e (queued-sound l i r c.args.mode c.self.invariant free none)
