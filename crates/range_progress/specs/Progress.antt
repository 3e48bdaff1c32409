-- What a run tells while it goes on.
use Rattle.std.specs.Prelude.{ℕ, ◌+◌, ◌-◌, ◌*◌, ◌/◌, ◌++◌, min, List, codes, decimal}
use Rattle.range_progress.specs.declared.cutting.TheConstants.{SHARD_RANKS}
use Rattle.range_progress.specs.declared.headway.Headway.{Headway}

-- how many shards so many ranks are: each has as many as one may have, but for the last
abbrev pub shards_of : ℕ → ℕ
shards_of ranks = (ranks + (SHARD_RANKS - 1)) / SHARD_RANKS

-- how many ranks the shard of this number has, of so many in all
abbrev pub ranks_of_shard : ℕ → ℕ → ℕ
ranks_of_shard all number = min SHARD_RANKS (all - SHARD_RANKS * number)

-- `3 of 12 shards, 3000 of 12000 ranks`
abbrev pub headway_text : Headway → List ℕ
headway_text s =
    decimal s.shards ++ (codes " of " ++ (decimal s.all_shards ++ (codes " shards, "
    ++ (decimal s.ranks ++ (codes " of " ++ (decimal s.all_ranks ++ codes " ranks"))))))

-- `isofarm: 3 of 12 shards, 3000 of 12000 ranks, 0.4 seconds`
abbrev pub progress_line : Headway → List ℕ
progress_line s =
    codes "isofarm: " ++ (headway_text s ++ (codes ", " ++ (decimal s.seconds ++ (codes "." ++ (decimal s.tenth ++ codes " seconds\n")))))
