-- In a sound world each session that waits reaches one that does not.
use Rattle.std.proofs.Common.{◌≡◌, ℕ, ◌<◌, true, false, List, [], ◌∷◌, length}
use Rattle.lock_queues.specs.declared.wait.Wait.{Wait}
use Rattle.lock_queues.specs.Locks.{waits_for, waits_now}
use Rattle.machine_model.specs.World.{World, look_of}
use Rattle.machine_model.specs.Sound.{Way, Ready, EachWait, Sound}

known-waits : (w : World) (vs : List Wait) → EachWait (Ready w) vs → EachWait (λ v. v.session < length w.sessions) vs
known-waits w [] r = tt
known-waits w (v ∷ vs) r = (r.0.known, known-waits w vs r.1)

pub waiter-reaches : (w : World) → Sound w → (a : ℕ) → waits_now w.waits a ≡ true → (b : ℕ) × Way (waits_for (look_of w) w.waits) a b
    × (waits_now w.waits b ≡ false)
waiter-reaches w sound = Rattle.lock_queues.proofs.Waiters.waiter-reaches (look_of w) w.waits (length w.sessions) sound.steady.distinct sound.steady.no_ring
    sound.unripe (known-waits w w.waits sound.steady.ready)
