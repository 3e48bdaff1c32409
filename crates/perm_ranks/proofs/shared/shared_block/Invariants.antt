use Rattle.std.proofs.Common.{◌≡◌, length}
use Rattle.perm_ranks.specs.Words.{Word}
use Rattle.perm_ranks.specs.Blocks.{HasRank, IsBlockOf}
use Rattle.perm_ranks.proofs.shared.shared_block.Given as goal

-- the block of the words that share so many letters with the rank's
abbrev pub invariant-loop-letter : goal.invariant-loop-letter
invariant-loop-letter l = (shared : Word) × IsBlockOf l.shape shared l.block × (length shared ≡ l._letter) × HasRank l.block l.rank
