-- One piece of a text after another, whatever its tokens are.
use Rattle.std.proofs.Common.{◌≡◌, ℕ, zero, suc, ◌+◌, ◌-◌, ◌<◌, ◌≤◌, Bool, true, false, cond, IsUtf8, List, [], ◌∷◌, ◌++◌, length, drop, map, refl, sym, ap}
use Rattle.std.proofs.Common.{subst, ◌∙◌, append_assoc, arith}
use Rattle.std.proofs.lemmas.List.{map_push}
use Rattle.std.proofs.lemmas.Str.{IsCharBoundary-after_ascii}
use Rattle.byte_runs.specs.declared.pieces.Piece.{Piece}
use Rattle.byte_runs.specs.declared.pieces.Piece.TheVariants as piece
use Rattle.byte_runs.specs.declared.pieces.Placed.{Placed}
use Rattle.byte_runs.specs.Pieces.{CutsAt, FitsIn, with_piece, tokens_past, placed_by}

-- a piece that a test picks fits where the picked one does
pub cond_fits : {T : Type 0} (bs : List ℕ) (c : Bool) (p q : Piece T) → (c ≡ true → FitsIn bs p) → FitsIn bs q → FitsIn bs (cond c p q)
cond_fits bs true p q f h = f refl
cond_fits bs false p q f h = h

-- one ASCII byte is a part of the text
pub one_fits : (b : ℕ) (bs : List ℕ) → IsUtf8 (b ∷ bs) → b < 128 → CutsAt (b ∷ bs) 1
one_fits b bs utf8 lt = record { some = omega arith; at_char = IsCharBoundary-after_ascii (b ∷ bs) 0 utf8 (omega arith) lt }

-- over what stands at an offset, which is a part of the text, and the token of the end
module _ {T : Type 0} (piece_of : ℕ → List ℕ → Piece T) (end : T) where
  abbrev past : ℕ → ℕ → List ℕ → List (Placed T)
  past = tokens_past piece_of end

  past_is : (k at : ℕ) (bs : List ℕ) → k ≤ length bs → past k at bs ≡ past 0 (at + k) (drop k bs)
  past_is zero at bs le = ap (λ (n : ℕ). past 0 n bs) (omega arith)
  past_is (suc k) at [] le = absurd (omega arith)
  past_is (suc k) at (b ∷ bs) le = past_is k (at + 1) bs (omega arith) ∙ ap (λ (n : ℕ). past 0 n (drop k bs)) (omega arith)

  -- the tokens from a piece on
  abbrev pub from_piece : ℕ → List ℕ → Piece T → List (Placed T)
  from_piece at bs (piece.Blank len) = past 0 (at + len) (drop len bs)
  from_piece at bs (piece.Next t len) = record { at = at; token = t } ∷ past 0 (at + len) (drop len bs)
  from_piece at bs (piece.Last t) = record { at = at; token = t } ∷ []

  rest_is : (at len : ℕ) (b : ℕ) (bs : List ℕ) → 0 < len → len ≤ length (b ∷ bs) → past (len - 1) (at + 1) bs ≡ past 0 (at + len) (drop len (b ∷ bs))
  rest_is at zero b bs lt le = absurd (omega arith)
  rest_is at (suc k) b bs lt le =
      ap (λ (n : ℕ). past n (at + 1) bs) (omega arith) ∙ past_is k (at + 1) bs (omega arith) ∙ ap (λ (n : ℕ). past 0 n (drop k bs)) (omega arith)

  with_piece_is : (at b : ℕ) (bs : List ℕ) (p : Piece T) → FitsIn (b ∷ bs) p
      → with_piece at p (λ k. past k (at + 1) bs) ≡ from_piece at (b ∷ bs) p
  with_piece_is at b bs (piece.Blank len) h = rest_is at len b bs h.some h.at_char.0
  with_piece_is at b bs (piece.Next t len) h = ap (λ (ps : List (Placed T)). record { at = at; token = t } ∷ ps) (rest_is at len b bs h.some h.at_char.0)
  with_piece_is at b bs (piece.Last t) h = refl

  -- where the end has its token, the tokens of a text are those of its first piece, which is a part of it, and those after it
  module _ (ended : (at : ℕ) → piece_of at [] ≡ piece.Last end) where
    tokens_by_piece : (at : ℕ) (bs : List ℕ) → FitsIn bs (piece_of at bs) → past 0 at bs ≡ from_piece at bs (piece_of at bs)
    tokens_by_piece at [] fits = sym (ap (from_piece at []) (ended at))
    tokens_by_piece at (b ∷ bs) fits = with_piece_is at b bs (piece_of at (b ∷ bs)) fits

    -- a loop over the pieces: the tokens so far and those to come are all of them
    pub goes_on : (front whole : List (Placed T)) (at : ℕ) (bs : List ℕ) (p : Piece T) → FitsIn bs p → p ≡ piece_of at bs
        → front ++ past 0 at bs ≡ whole → front ++ from_piece at bs p ≡ whole
    goes_on front whole at bs p fits e so_far =
        ap (λ (q : Piece T). front ++ from_piece at bs q) e
        ∙ ap (λ (ps : List (Placed T)). front ++ ps) (sym (tokens_by_piece at bs (subst (FitsIn bs) e fits))) ∙ so_far

-- a token more in front is one less to come
pub goes_on_after : {T : Type 0} (front front' whole : List (Placed T)) (t : Placed T) (more : List (Placed T))
    → front' ≡ front ++ t ∷ [] → front ++ (t ∷ more) ≡ whole
    → front' ++ more ≡ whole
goes_on_after front front' whole t more e so_far = rw (e, append_assoc) so_far

-- what is seen of the tokens after one more
pub placed_push : {S T : Type 0} (view : S → T) (front front' : List (Placed S)) (p : Placed S) → front' ≡ front ++ p ∷ []
    → map (placed_by view) front' ≡ map (placed_by view) front ++ placed_by view p ∷ []
placed_push view front front' p e = ap (map (placed_by view)) e ∙ map_push (placed_by view) front p
