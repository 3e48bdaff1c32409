-- Seats in a row.
use Rattle.std.proofs.Common.{◌≡◌, ◌⊎◌, ℕ, zero, suc, List, [], ◌∷◌, ◌++◌, length, refl, sym, ap, ◌∙◌, subst, ⊎_elim, inl, inr, arith}
use mathlib.Core.Option.{some, some-ne-none, some-injective}
use Rattle.std.proofs.Common.{All, get_or, ◌<◌}
use lib.ListN.{get_elem?}
use Rattle.shard_board.specs.Closing.{OfBoard}
use Rattle.shard_board.specs.Shown.{ShownBoard, ShownSeat}
use Rattle.shard_board.specs.Changes.{IsRowOf, fresh_seat}

pub at_end : {A : Type 0} (l : List A) (a b : A) (j : ℕ) → get_elem? (l ++ a ∷ []) j ≡ some b → (get_elem? l j ≡ some b) ⊎ ((j ≡ length l) × (a ≡ b))
at_end [] a b zero e = inr (refl, some-injective a b e)
at_end [] a b (suc j) e = absurd (some-ne-none b (sym e))
at_end (x ∷ xs) a b zero e = inl e
at_end (x ∷ xs) a b (suc j) e = ⊎_elim (λ t. inl t) (λ (t : (j ≡ length xs) × (a ≡ b)). inr (ap suc t.0, t.1)) (at_end xs a b j e)

pub row_more : (board : ShownBoard) (k : ℕ) (xs : List ShownSeat) (s : ShownSeat) → length xs ≡ k → s ≡ fresh_seat board k → IsRowOf board xs
    → IsRowOf board (xs ++ s ∷ [])
row_more board k xs s long is row j b e =
    ⊎_elim (λ old. row j b old) (λ (new : (j ≡ length xs) × (s ≡ b)). sym new.1 ∙ (is ∙ ap (fresh_seat board) (sym (new.0 ∙ long)))) (at_end xs s b j e)

-- a seat is at its board's table
pub one_table : (s s' : ShownSeat) (b b' : ShownBoard) → s ≡ s' → s'.board ≡ b' → b ≡ b' → s.board.table_id ≡ b.table_id
one_table s s' b b' p q r = ap (λ (x : ShownSeat). x.board.table_id) p ∙ ap (λ (x : ShownBoard). x.table_id) (q ∙ sym r)

pub one_count : (s s' : ShownSeat) (b b' : ShownBoard) → s ≡ s' → s'.board ≡ b' → s.board.shards ≡ b'.shards
one_count s s' b b' p q = ap (λ (x : ShownSeat). x.board.shards) p ∙ ap (λ (x : ShownBoard). x.shards) q

read_at : {A : Type 0} (l : List A) (k : ℕ) (x : A) → get_elem? l k ≡ some x → (k < length l) × (get_or l k x ≡ x)
read_at [] k x e = absurd (some-ne-none x (sym e))
read_at (y ∷ ys) zero x e = (omega arith, some-injective y x e)
read_at (y ∷ ys) (suc k) x e = let r = read_at ys k x e in let h = r.0 in (omega arith, r.1)

found_at : {A : Type 0} (l : List A) (k : ℕ) (d : A) → k < length l → get_elem? l k ≡ some (get_or l k d)
found_at [] k d h = absurd (omega arith)
found_at (y ∷ ys) zero d h = refl
found_at (y ∷ ys) (suc k) d h = found_at ys k d (omega arith)

pub all_of_row : (board : ShownBoard) (xs : List ShownSeat) → IsRowOf board xs → All (λ (s : ShownSeat). s.board ≡ board) xs
all_of_row board xs row k d h = ap (λ (s : ShownSeat). s.board) (row k (get_or xs k d) (found_at xs k d h))

pub of_board : (board : ShownBoard) (xs : List ShownSeat) → All (λ (s : ShownSeat). s.board ≡ board) xs → OfBoard board.table_id xs
of_board board xs all k s at = let r = read_at xs k s at in
    subst (λ (x : ShownSeat). x.board.table_id ≡ board.table_id) r.1 (ap (λ (b : ShownBoard). b.table_id) (all k s r.0))
