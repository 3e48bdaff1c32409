-- A block's text on one line: its tokens as they are written, with one blank where white space or comments stand between two of them.
use Rattle.std.specs.Prelude.{◌≡◌, ℕ, zero, suc, ◌-◌, Bool, true, false, not, All, List, [], ◌∷◌, ◌++◌, Option, Some, None, map, take, cond, codes}
use Rattle.std.specs.Borrow.{Bor}
use Rattle.byte_runs.specs.Bytes.{is_white}
use Rattle.byte_runs.specs.declared.pieces.Piece.TheVariants.{Blank, Next, Last}
use Rattle.sql_grammar.specs.Lexing.{Piece, piece_of}
use Rattle.spec_texts.specs.declared.line.Before.{Before}
use Rattle.spec_texts.specs.declared.line.Before.TheVariants as before
use Rattle.spec_texts.specs.declared.line.Part.{Part as Read}
use Rattle.spec_texts.specs.declared.line.Part.TheVariants as read

-- a part of a text: white space or a comment, or a token as it is written
pub data Part : Type 0 where
  Gap : Part
  Written : (bytes : List ℕ) → Part

-- the part of the piece that some bytes begin with, and those after it: of the bytes past the first, without the rest of the piece. Behind
-- a piece after which nothing is read there are none; in a block that is read, that is its end
abbrev pub with_piece : List ℕ → Piece → (ℕ → List Part) → List Part
with_piece bs (Blank len) more = Gap ∷ more (len - 1)
with_piece bs (Next t len) more = Written (take len bs) ∷ more (len - 1)
with_piece bs (Last t) more = []

-- the parts of some bytes, of which the first ones are passed over
abbrev pub parts_past : ℕ → List ℕ → List Part
parts_past skip [] = []
parts_past zero (b ∷ bs) = with_piece (b ∷ bs) (piece_of (b ∷ bs)) (λ k. parts_past k bs)
parts_past (suc k) (b ∷ bs) = parts_past k bs

abbrev pub parts : List ℕ → List Part
parts text = parts_past 0 text

-- ---- the line

-- each white space of a quoted text is a blank
abbrev pub shown : ℕ → ℕ
shown b = cond (is_white b) 32 b

-- what stands before the next part, where a gap stands behind this
abbrev pub after_gap : Before → Before
after_gap before.Nothing = before.Nothing
after_gap before.Token = before.Gap
after_gap before.Gap = before.Gap

-- what parts a token from what stands before it
abbrev pub separator : Before → List ℕ
separator before.Nothing = []
separator before.Token = []
separator before.Gap = codes " "

-- the parts on a line, behind what stands before them
abbrev pub joined : Before → List Part → List ℕ
joined b [] = []
joined b (Gap ∷ ps) = joined (after_gap b) ps
joined b (Written bytes ∷ ps) = separator b ++ (map shown bytes ++ joined before.Token ps)

abbrev pub one_line : List ℕ → List ℕ
one_line text = joined before.Nothing (parts text)

-- no white space stands on the line but blanks
abbrev pub IsOneLine : List ℕ → Type 0
IsOneLine line = All (λ b. is_white b ≡ true → b ≡ 32) line

-- ---- what the code has

abbrev pub part_of : Read → Part
part_of read.Gap = Gap
part_of (read.Written x) = Written x.now

-- the first part, and those of what follows
abbrev pub parts_by : Option (Read × Bor (List ℕ)) → List Part
parts_by None = []
parts_by (Some x) = part_of x.0 ∷ parts x.1.now

abbrev pub is_dark : ℕ → Bool
is_dark b = not (is_white b)

abbrev pub begins_white : List ℕ → Bool
begins_white [] = false
begins_white (b ∷ bs) = is_white b
