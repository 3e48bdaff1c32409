use Rattle.step_reducer.proofs.Refusals.{walks-but-for-memory}
use Rattle.step_reducer.proofs.shard_walk.ShardWalk.of_started.Goals as goal

pub not_walked-requires : goal.not_walked-requires
not_walked-requires c = walks-but-for-memory _ _ c.in-Err.error c.requires.started c.requires.lawful c.in-Err.ensures.refused
