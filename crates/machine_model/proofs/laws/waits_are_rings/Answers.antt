use Rattle.lock_queues.proofs.Rings.{way-found, way-is-found}
use Rattle.machine_model.proofs.laws.waits_are_rings.Goals as goal

pub returns : goal.returns
returns c = λ edge n low a b. (way-found edge n a b, way-is-found edge n low a b)
