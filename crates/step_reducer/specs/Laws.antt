-- The law of swaps.
use Rattle.std.specs.Prelude.{ℕ, ◌+◌, ◌≤◌, length}
use Rattle.perm_ranks.specs.Words.{Word}
use Rattle.perm_ranks.specs.Blocks.{Block, HasRank, IsBlockOf}
use Rattle.bound_specs.specs.Spec.{Spec, counts_of, queues_of}
use Rattle.machine_model.specs.World.{World}
use Rattle.rank_facts.specs.Swap.{IsSwap}

-- a swap at a place of the word of a rank is one of each rank of the block whose words share the letters up to the one behind the place
abbrev pub SwapsCoverBlocks : Type 0
SwapsCoverBlocks =
    (spec : Spec) (w : World) (shared : Word) (block : Block) (r s k : ℕ) → IsBlockOf (counts_of (queues_of spec)) shared block → k + 2 ≤ length shared
    → HasRank block r → HasRank block s → IsSwap spec w r k → IsSwap spec w s k
