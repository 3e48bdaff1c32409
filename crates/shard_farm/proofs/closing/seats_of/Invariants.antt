use Rattle.std.proofs.Common.{◌≡◌, ◌+◌, ◌≤◌, ◌++◌, length, map, vec_len, vec_capacity}
use Rattle.std.specs.Vec.Iter.{into_iter_items}
use Rattle.shard_farm.proofs.CrewLemmas.{seat_of}
use Rattle.shard_farm.proofs.closing.seats_of.Given as goal

abbrev pub invariant-loop-worker : goal.invariant-loop-worker
invariant-loop-worker l = record {
  all : l.seats.items ++ map seat_of (into_iter_items l.worker-iterator) ≡ map seat_of l.fn.workers.items;
  room : vec_len l.seats + length (into_iter_items l.worker-iterator) ≤ vec_capacity l.seats;
}
