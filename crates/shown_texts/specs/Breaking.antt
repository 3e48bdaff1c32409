-- Texts that are broken into lines.
use Rattle.std.specs.Prelude.{ℕ, ◌-◌, nat_le, Bool, cond, ◌||◌, ◌&&◌, ◌==◌, List, [], ◌∷◌, ◌++◌, length}
use Rattle.shown_texts.specs.Characters.{blanks, trimmed}

-- a piece of a text ends behind a blank, or where it has so many characters
abbrev pub ends_piece : ℕ → ℕ → List ℕ → Bool
ends_piece most c piece = c == 32 || nat_le most (length piece)

abbrev pub last_piece : List ℕ → List (List ℕ)
last_piece [] = []
last_piece (c ∷ cs) = (c ∷ cs) ∷ []

-- the pieces of a text, of which the first begins so
abbrev pub pieces : ℕ → List ℕ → List ℕ → List (List ℕ)
pieces most piece [] = last_piece piece
pieces most piece (c ∷ cs) =
    cond (ends_piece most c (piece ++ c ∷ [])) ((piece ++ c ∷ []) ∷ pieces most [] cs) (pieces most (piece ++ c ∷ []) cs)

-- a piece goes on a line, where a blank at its end may stand behind the line's last column
abbrev pub fits : ℕ → List ℕ → List ℕ → Bool
fits width line piece = nat_le (length line) width && nat_le (length (trimmed piece)) (width - length line)

-- lines of the pieces, of which the first begins so: a piece that does not go on a line begins the next one, behind a margin
abbrev pub filled : ℕ → ℕ → List ℕ → List (List ℕ) → List (List ℕ)
filled width margin line [] = line ∷ []
filled width margin line (p ∷ ps) =
    cond (fits width line p) (filled width margin (line ++ p) ps) (line ∷ filled width margin (blanks margin ++ p) ps)

-- a text in lines of a width: so many blanks stand in front of the first line, and a margin in front of each further one
abbrev pub broken : ℕ → ℕ → ℕ → List ℕ → List (List ℕ)
broken width front margin text = filled width margin (blanks front) (pieces (width - margin) [] text)
