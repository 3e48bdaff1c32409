-- What a tree is seen as.
use Rattle.std.specs.Prelude.{ℕ, List}

-- a tree's entries in the order of their keys, and its height
pub record Seen (K V : Type 0) : Type 0 where
  pub entries : List (K × V)
  pub height : ℕ
