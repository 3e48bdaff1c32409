-- A text as pieces, one after another, whatever its tokens are.
use Rattle.std.specs.Prelude.{ℕ, zero, suc, ◌+◌, ◌-◌, ◌<◌, ⊤, List, [], ◌∷◌}
use Rattle.std.specs.Str.{IsCharBoundary}
use Rattle.byte_runs.specs.declared.pieces.Piece.{Piece}
use Rattle.byte_runs.specs.declared.pieces.Piece.TheVariants as piece
use Rattle.byte_runs.specs.declared.pieces.Placed.{Placed}

-- the text may be cut behind so many bytes, and not at its start
pub record CutsAt (bs : List ℕ) (len : ℕ) : Type 0 where
  pub some : 0 < len
  pub at_char : IsCharBoundary bs len

-- a piece is a part of the text
abbrev pub FitsIn : {T : Type 0} → List ℕ → Piece T → Type 0
FitsIn bs (piece.Blank len) = CutsAt bs len
FitsIn bs (piece.Next t len) = CutsAt bs len
FitsIn bs (piece.Last t) = ⊤

-- the token of a piece, if it has one, and the tokens after it: those of the bytes past its first, without the rest of the piece
abbrev pub with_piece : {T : Type 0} → ℕ → Piece T → (ℕ → List (Placed T)) → List (Placed T)
with_piece at (piece.Blank len) more = more (len - 1)
with_piece at (piece.Next t len) more = record { at = at; token = t } ∷ more (len - 1)
with_piece at (piece.Last t) more = record { at = at; token = t } ∷ []

-- the tokens of the bytes at this offset, of which the first ones are passed over: the function tells the piece that stands at an
-- offset in front of some bytes, and the token is that of the end
abbrev pub tokens_past : {T : Type 0} → (ℕ → List ℕ → Piece T) → T → ℕ → ℕ → List ℕ → List (Placed T)
tokens_past piece_of end skip at [] = record { at = at; token = end } ∷ []
tokens_past piece_of end zero at (b ∷ bs) = with_piece at (piece_of at (b ∷ bs)) (λ k. tokens_past piece_of end k (at + 1) bs)
tokens_past piece_of end (suc k) at (b ∷ bs) = tokens_past piece_of end k (at + 1) bs

-- the tokens of a text
abbrev pub token_list : {T : Type 0} → (ℕ → List ℕ → Piece T) → T → List ℕ → List (Placed T)
token_list piece_of end bs = tokens_past piece_of end 0 0 bs

-- a piece, and a token with its offset, by another view of the token
abbrev pub piece_by : {S T : Type 0} → (S → T) → Piece S → Piece T
piece_by view (piece.Blank len) = piece.Blank len
piece_by view (piece.Next t len) = piece.Next (view t) len
piece_by view (piece.Last t) = piece.Last (view t)

abbrev pub placed_by : {S T : Type 0} → (S → T) → Placed S → Placed T
placed_by view p = record { at = p.at; token = view p.token }
