-- The words of a shape that begin with the same letters: their ranks follow one another.
use Rattle.std.specs.Prelude.{◌≡◌, ℕ, ◌+◌, ◌<◌, ◌≤◌, List, [], ◌∷◌, ◌++◌, length}
use Rattle.perm_ranks.specs.Words.{Word, total, all_words, word_at}
use Rattle.perm_ranks.specs.Counting.{taken, words_before}

-- how many letters of each session the words have behind those that they share, and the rank of the first of them
pub record Block : Type 0 where
  pub left : List ℕ
  pub first : ℕ

-- the rank behind the last of them
abbrev pub end_of : Block → ℕ
end_of b = b.first + length (all_words b.left)

abbrev pub HasRank : Block → ℕ → Type 0
HasRank b rank = (b.first ≤ rank) × (rank < end_of b)

-- those of them that go on with the letter
abbrev pub narrowed : Block → ℕ → Block
narrowed b letter = record { left = taken b.left letter; first = b.first + length (words_before b.left letter) }

-- the words of the shape from the block's first rank on are those that begin with the letters, in rising order
pub record IsBlockOf (counts : List ℕ) (shared : Word) (b : Block) : Type 0 where
  pub inside : end_of b ≤ length (all_words counts)
  pub letters : length shared + total b.left ≡ total counts
  pub words : (i : ℕ) → i < length (all_words b.left) → word_at counts (b.first + i) ≡ shared ++ word_at b.left i

-- the block of the words that share so many letters with the rank's
pub record IsSharedBlock (counts : List ℕ) (rank letters : ℕ) (block : Block) : Type 0 where
  pub shared : Word
  pub is_block : IsBlockOf counts shared block
  pub long : length shared ≡ letters
  pub has : HasRank block rank
