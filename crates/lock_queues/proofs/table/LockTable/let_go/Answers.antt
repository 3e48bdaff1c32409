use Rattle.std.proofs.Common.{◌≡◌, subst, sym}
use Rattle.lock_queues.specs.LockTable.{Locks, let_go}
use Rattle.lock_queues.specs.Sound.{IsSound}
use Rattle.lock_queues.proofs.Keeping.{let_go-sound}
use Rattle.lock_queues.proofs.table.LockTable.let_go.Goals as goal

pub remove_wait-requires : goal.remove_wait-requires
remove_wait-requires c = c.self.invariant.distinct

pub invariant_of-self : goal.invariant_of-self
invariant_of-self c =
    let l : Locks = record { held = c.self.inside.held; waits = c.self.inside.waits.items } in
    let e : ◌≡◌ {A = Locks} (let_go l c.args.session) (record { held = c.take.new.self; waits = c.remove_wait.new.waits.items }) =
    (λ i. record { held = sym c.take.ensures i; waits = sym c.remove_wait.ensures i }) in
    subst IsSound e (let_go-sound l c.args.session c.self.invariant)
