use Rattle.std.proofs.Common.{◌≡◌}
use Rattle.shard_farm.specs.Working.{IsWalkFor, HasClaimed}
use Rattle.shard_farm.proofs.worker.work_on.Given as goal

abbrev pub invariant-loop : goal.invariant-loop
invariant-loop g l = record {
  board : l.worker.seat.board ≡ l.board;
  claimed : HasClaimed l.plan.reduce l.board.file.run l.plan.shards.now l.worker l.number;
  walk : IsWalkFor l.spec l.plan.reduce l.walk;
}
