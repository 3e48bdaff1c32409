use Rattle.std.proofs.Common.{refl, arith}
use Rattle.lock_modes.specs.Resource.{resource_at}
use Rattle.lock_queues.proofs.HeldLemmas.{all-fit}
use Rattle.lock_queues.proofs.held.all_fit.Goals as goal

pub returns : goal.returns
returns c =
    let f = all-fit c.args.session (resource_at c.args.place) c.args.mode c.args.sessions.now c.loop-other.other (omega arith) c.loop-other.invariant in
    ((λ _. f), (λ _. refl))
