-- Which shards are of a spec.
use Rattle.std.specs.Prelude.{◌+◌, ◌≤◌}
use Rattle.bound_specs.specs.Spec.{Spec, ranks}
use Rattle.rank_facts.specs.declared.shard.Shard.{Shard}
use Rattle.rank_facts.specs.declared.shard.TheConstants.{MAX_RANKS}

-- the shard is of ranks of the spec, and not too long
pub record IsShardOf (spec : Spec) (shard : Shard) : Type 0 where
  pub order : shard.first ≤ shard.end
  pub inside : shard.end ≤ ranks spec
  pub few : shard.end ≤ shard.first + MAX_RANKS
