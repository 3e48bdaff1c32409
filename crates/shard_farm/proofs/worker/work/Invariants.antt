use Rattle.std.proofs.Common.{◌≡◌}
use Rattle.shard_farm.specs.Working.{Serves}
use Rattle.shard_farm.proofs.worker.work.Given as goal

abbrev pub invariant-loop : goal.invariant-loop
invariant-loop g l = record {
  board : l.worker.seat.board ≡ l.board;
  serves : Serves l.plan.reduce l.board.file.run l.plan.shards.now l.worker.seat l.worker.missed.items;
}
