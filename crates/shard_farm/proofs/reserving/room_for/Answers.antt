use Rattle.shard_farm.proofs.CrewLemmas.{all_starting}
use Rattle.shard_farm.proofs.reserving.room_for.Goals as goal

pub workers_of-requires-clause-fresh : goal.workers_of-requires-clause-fresh
workers_of-requires-clause-fresh c = all_starting c.in-Ok.board c.in-Ok.seats.items c.in-Ok.ensures.fresh
