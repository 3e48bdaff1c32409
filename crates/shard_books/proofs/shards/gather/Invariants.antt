use Rattle.std.proofs.Common.{◌-◌}
use Rattle.shard_books.specs.Gathering.{IsGathering}
use Rattle.shard_books.proofs.shards.gather.Given as goal

abbrev pub invariant-runs : goal.invariant-runs
invariant-runs l = IsGathering l.initial.walk l.walk l.builder

abbrev pub decreases-runs : goal.decreases-runs
decreases-runs l = l.walk.end - l.walk.at
