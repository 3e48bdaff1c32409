-- Ranges of ranks cut into shards.
use Rattle.std.specs.Prelude.{◌≡◌, ℕ, ◌+◌, ◌*◌, ◌<◌, ◌≤◌, List, length}
use mathlib.Core.Option.{some}
use lib.ListN.{get_elem?}
use Rattle.rank_facts.specs.declared.shard.Shard.{Shard}
use Rattle.range_progress.specs.declared.cutting.TheConstants.{SHARD_RANKS}

-- the shard of a range with this number, from 0: it begins behind as many whole ones, and is whole, unless it is the last
pub record IsCut (first end number : ℕ) (shard : Shard) : Type 0 where
  pub from : shard.first ≡ first + SHARD_RANKS * number
  pub order : shard.first < shard.end
  pub to : shard.end ≤ end
  pub few : shard.end ≤ shard.first + SHARD_RANKS
  pub whole : shard.end < end → shard.end ≡ shard.first + SHARD_RANKS

-- one of the shards has the rank
abbrev pub IsInOne : List Shard → ℕ → Type 0
IsInOne shards r = (n : ℕ) × ((shard : Shard) × ((get_elem? shards n ≡ some shard) × ((shard.first ≤ r) × (r < shard.end))))

-- the shards are those of the range up to here: each is the one with its number, each rank is in one of them, all are whole where the end
-- is not reached, and there are no more than that takes
pub record AreCut (first at end : ℕ) (shards : List Shard) : Type 0 where
  pub from : first ≤ at
  pub to : at ≤ end
  pub parts : (number : ℕ) (shard : Shard) → get_elem? shards number ≡ some shard → IsCut first end number shard
  pub whole : (r : ℕ) → first ≤ r → r < at → IsInOne shards r
  pub full : at < end → first + SHARD_RANKS * length shards ≡ at
  pub many : first + SHARD_RANKS * length shards < at + SHARD_RANKS

-- a shard from here reaches the end, or is as long as one may be
pub record IsCutAt (at end next : ℕ) : Type 0 where
  pub more : at < next
  pub inside : next ≤ end
  pub few : next ≤ at + SHARD_RANKS
  pub full : next < end → next ≡ at + SHARD_RANKS
