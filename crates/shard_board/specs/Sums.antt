-- Sums over what the views of a board's table have.
use Rattle.std.specs.Prelude.{ℕ, ◌+◌, Bool, cond, List, [], ◌∷◌, Option}
use Rattle.fact_books.specs.Books.{Contents}
use Rattle.shard_board.specs.declared.rule.Part.{Part}
use Rattle.shard_board.specs.declared.rule.View.{View}

-- what a slot of the table holds
abbrev pub Slot : Type 0
Slot = Option Contents

abbrev pub tick : Bool → ℕ
tick b = cond b 1 0

abbrev pub total : {A : Type 0} → (A → ℕ) → List A → ℕ
total f [] = 0
total f (x ∷ xs) = f x + total f xs

-- f of each part that a view has, added up
abbrev pub each : (Part → ℕ) → View → ℕ
each f v = cond v.live (f v.own) 0 + total f v.joined

abbrev pub one : Part → ℕ
one p = 1
