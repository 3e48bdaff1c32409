use Rattle.std.proofs.Common.{◌≡◌, ◌∙◌, subst, sym, false, [], ◌∷◌, ◌++◌, List}
use Rattle.lock_modes.specs.Resource.{resource_at}
use Rattle.lock_queues.specs.Locks as locks
use Rattle.lock_queues.specs.LockTable.{Locks}
use Rattle.lock_queues.specs.Sound.{Distinct}
use Rattle.lock_queues.proofs.Keeping.{none-waits}
use Rattle.lock_queues.proofs.WaitLists.{distinct-push}
use Rattle.lock_queues.proofs.table.LockTable.ring.Goals as goal

pub ring_of-requires-clause-distinct : goal.ring_of-requires-clause-distinct
ring_of-requires-clause-distinct c =
    let ws = c.self.inside.waits.items in
    let w : locks.Wait = record { session = c.args.session; resource = resource_at c.args.place; mode = c.args.mode } in
    let free : locks.waits_now ws c.args.session ≡ false =
    subst (λ (t : Locks). locks.waits_now t.waits c.args.session ≡ false) (sym c.self.view_is) c.requires.free in
    let same : ◌≡◌ {A = List locks.Wait} (ws ++ w ∷ []) c.deref-2.result.now =
    (λ i. sym (c.in_ok-waits.ensures ∙ c.deref.ensures.value) i
    ++ record { session = c.args.session; resource = sym c.in_ok-resource.ensures i; mode = c.args.mode } ∷ [])
    ∙ sym c.in_ok-push.ensures.items ∙ sym c.deref-2.ensures.value in
    subst Distinct same (distinct-push ws w c.self.invariant.distinct (none-waits c.args.session ws free))
