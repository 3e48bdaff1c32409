use Rattle.std.proofs.Common.{◌≡◌, ◌+◌, All, length, vec_len}
use Rattle.std.specs.Vec.Iter.{into_iter_items}
use Rattle.shard_farm.specs.Working.{IsStarting, IsReady}
use Rattle.shard_farm.proofs.crew.workers_of.Given as goal

abbrev pub invariant-loop-seat : goal.invariant-loop-seat
invariant-loop-seat l = record {
  many : vec_len l.workers + length (into_iter_items l.seat-iterator) ≡ vec_len l.fn.seats;
  rest : All (IsStarting l.board) (into_iter_items l.seat-iterator);
  ready : All (IsReady l.board) l.workers.items;
}
