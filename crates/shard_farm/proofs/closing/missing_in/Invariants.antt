use Rattle.std.proofs.Common.{◌≡◌, ◌≤◌, vec_len, vec_capacity}
use Rattle.shard_farm.specs.Working.{numbers_missed}
use Rattle.shard_farm.proofs.closing.missing_in.Given as goal

abbrev pub invariant-loop-number : goal.invariant-loop-number
invariant-loop-number l = record {
  all : l.numbers.items ≡ numbers_missed l.workers l.number;
  few : vec_len l.numbers ≤ l.number;
  room : l.shards ≤ vec_capacity l.numbers;
}
