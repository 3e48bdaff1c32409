-- The parts of a text, one after another.
use Rattle.std.proofs.Common.{◌≡◌, ℕ, zero, suc, ◌-◌, ◌<◌, ◌≤◌, List, [], ◌∷◌, length, take, drop, refl, sym, ap, subst, ◌∙◌, arith}
use Rattle.byte_runs.specs.Pieces.{FitsIn}
use Rattle.byte_runs.specs.declared.pieces.Piece.TheVariants.{Blank, Next, Last}
use Rattle.sql_grammar.specs.Lexing.{Piece, piece_of, piece_of-end}
use Rattle.spec_texts.specs.OneLine.{Part, Gap, Written, with_piece, parts_past, parts}

past_is : (k : ℕ) (bs : List ℕ) → k ≤ length bs → parts_past k bs ≡ parts (drop k bs)
past_is zero bs le = refl
past_is (suc k) [] le = refl
past_is (suc k) (b ∷ bs) le = past_is k bs (omega arith)

-- the parts from a piece on
abbrev pub from_piece : List ℕ → Piece → List Part
from_piece bs (Blank len) = Gap ∷ parts (drop len bs)
from_piece bs (Next t len) = Written (take len bs) ∷ parts (drop len bs)
from_piece bs (Last t) = []

rest_is : (len b : ℕ) (bs : List ℕ) → 0 < len → len ≤ length (b ∷ bs) → parts_past (len - 1) bs ≡ parts (drop len (b ∷ bs))
rest_is zero b bs lt le = absurd (omega arith)
rest_is (suc k) b bs lt le = ap (λ (n : ℕ). parts_past n bs) (omega arith) ∙ past_is k bs (omega arith)

with_piece_is : (b : ℕ) (bs : List ℕ) (p : Piece) → FitsIn (b ∷ bs) p → with_piece (b ∷ bs) p (λ k. parts_past k bs) ≡ from_piece (b ∷ bs) p
with_piece_is b bs (Blank len) h = ap (λ (ps : List Part). Gap ∷ ps) (rest_is len b bs h.some h.at_char.0)
with_piece_is b bs (Next t len) h = ap (λ (ps : List Part). Written (take len (b ∷ bs)) ∷ ps) (rest_is len b bs h.some h.at_char.0)
with_piece_is b bs (Last t) h = refl

by_piece : (bs : List ℕ) → FitsIn bs (piece_of bs) → parts bs ≡ from_piece bs (piece_of bs)
by_piece [] h = sym (ap (from_piece []) (piece_of-end 0))
by_piece (b ∷ bs) h = with_piece_is b bs (piece_of (b ∷ bs)) h

-- the parts of a text are those from its first piece on, which is a part of it
pub parts-by-piece : (bs : List ℕ) (p : Piece) → p ≡ piece_of bs → FitsIn bs p → parts bs ≡ from_piece bs p
parts-by-piece bs p e h = by_piece bs (subst (FitsIn bs) e h) ∙ ap (from_piece bs) (sym e)
