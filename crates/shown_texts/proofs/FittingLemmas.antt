-- No line of a broken text is too wide.
use Rattle.std.proofs.Common.{◌≡◌, ℕ, suc, ◌+◌, ◌-◌, ◌<◌, ◌≤◌, Bool, true, false, cond, List, [], ◌∷◌, ◌++◌, length, refl, ap, ◌∙◌, arith}
use Rattle.std.proofs.lemmas.Bool.{and_parts, leb-true, leb-false}
use Rattle.std.proofs.lemmas.List.{length-append, length-replicate}
use Rattle.std.proofs.lemmas.List.Elements.{All-from_recursion}
use Rattle.std.specs.Prelude.{nat_le, ◌==◌, All}
use Rattle.std.specs.List.{AllByRecursion}
use Rattle.shown_texts.specs.Characters.{blanks, trimmed}
use Rattle.shown_texts.specs.Breaking.{broken, filled, fits, pieces}
use Rattle.shown_texts.specs.Laws.{IsWithin}
use Rattle.shown_texts.proofs.TrimmedLemmas.{trimmed-append, trimmed-le, trimmed-push}

-- a piece is no longer, and has at most one blank at its end
abbrev pub IsPiece : ℕ → List ℕ → Type 0
IsPiece most p = (length p ≤ most) × (length p ≤ suc (length (trimmed p)))

-- a character behind one without blanks at its end
is_piece : (most c : ℕ) (piece : List ℕ) (b : Bool) → (c == 32) ≡ b → trimmed piece ≡ piece → length piece < most → IsPiece most (piece ++ c ∷ [])
is_piece most c piece true e whole lt =
    let len : length (piece ++ c ∷ []) ≡ length piece + 1 = length-append piece (c ∷ []) in
    let left : trimmed (piece ++ c ∷ []) ≡ piece = trimmed-push piece c ∙ ap (λ (q : Bool). cond q (trimmed piece) (piece ++ c ∷ [])) e ∙ whole in
    let left_len : length (trimmed (piece ++ c ∷ [])) ≡ length piece = ap length left in
    (omega (arith, len, lt), omega (arith, len, left_len))
is_piece most c piece false e whole lt =
    let len : length (piece ++ c ∷ []) ≡ length piece + 1 = length-append piece (c ∷ []) in
    let left : trimmed (piece ++ c ∷ []) ≡ piece ++ c ∷ [] = trimmed-push piece c ∙ ap (λ (q : Bool). cond q (trimmed piece) (piece ++ c ∷ [])) e in
    let left_len : length (trimmed (piece ++ c ∷ [])) ≡ length (piece ++ c ∷ []) = ap length left in
    (omega (arith, len, lt), omega (arith, left_len))

more_fit : (most c : ℕ) (cs piece : List ℕ) (blank long : Bool) → (c == 32) ≡ blank → nat_le most (length (piece ++ c ∷ [])) ≡ long
    → IsPiece most (piece ++ c ∷ []) → AllByRecursion (IsPiece most) (pieces most [] cs)
    → (trimmed (piece ++ c ∷ []) ≡ piece ++ c ∷ [] → length (piece ++ c ∷ []) < most → AllByRecursion (IsPiece most) (pieces most (piece ++ c ∷ []) cs))
    → AllByRecursion (IsPiece most) (pieces most piece (c ∷ cs))
more_fit most c cs piece true long e f is new on = rw e (is, new)
more_fit most c cs piece false true e f is new on = rw (e, f) (is, new)
more_fit most c cs piece false false e f is new on =
    rw (e, f) (on (trimmed-push piece c ∙ ap (λ (q : Bool). cond q (trimmed piece) (piece ++ c ∷ [])) e) (leb-false most (length (piece ++ c ∷ [])) f))

pub pieces-fit : (most : ℕ) → 0 < most → (cs piece : List ℕ) → trimmed piece ≡ piece → length piece < most
    → AllByRecursion (IsPiece most) (pieces most piece cs)
pieces-fit most some [] [] whole lt = tt
pieces-fit most some [] (c ∷ piece) whole lt =
    let len : length (trimmed (c ∷ piece)) ≡ length (c ∷ piece) = ap length whole in ((omega (arith, lt), omega (arith, len)), tt)
pieces-fit most some (c ∷ cs) piece whole lt =
    more_fit most c cs piece (c == 32) (nat_le most (length (piece ++ c ∷ []))) refl refl (is_piece most c piece (c == 32) refl whole lt)
    (pieces-fit most some cs [] refl some) (pieces-fit most some cs (piece ++ c ∷ []))

-- a piece that fits leaves the line within its width
longer : (width most : ℕ) (line p : List ℕ) → IsPiece most p → fits width line p ≡ true → IsWithin width (line ++ p)
longer width most line p is fit =
    let parts = and_parts (nat_le (length line) width) (nat_le (length (trimmed p)) (width - length line)) fit in
    let a = leb-true (length line) width parts.0 in
    let b = leb-true (length (trimmed p)) (width - length line) parts.1 in
    let c = length-append line p in
    let d = trimmed-append line p in
    let one = is.1 in
    (omega (arith, a, b, c, one), omega (arith, a, b, d))

-- and so does one that begins a line
begun : (width margin : ℕ) (p : List ℕ) → margin < width → IsPiece (width - margin) p → IsWithin width (blanks margin ++ p)
begun width margin p room is =
    let a = length-append (blanks margin) p in
    let b = length-replicate {A = ℕ} margin 32 in
    let c = trimmed-le (blanks margin ++ p) in
    let most = is.0 in
    (omega (arith, a, b, most, room), omega (arith, a, b, c, most, room))

more_lines : (width margin : ℕ) (line p : List ℕ) (ps : List (List ℕ)) (b : Bool) → fits width line p ≡ b → IsWithin width line
    → (fits width line p ≡ true → AllByRecursion (IsWithin width) (filled width margin (line ++ p) ps))
    → AllByRecursion (IsWithin width) (filled width margin (blanks margin ++ p) ps)
    → AllByRecursion (IsWithin width) (filled width margin line (p ∷ ps))
more_lines width margin line p ps true e within on new = let h = on e in rw e h
more_lines width margin line p ps false e within on new = rw e (within, new)

filled-fit : (width margin : ℕ) → margin < width → (ps : List (List ℕ)) (line : List ℕ) → IsWithin width line
    → AllByRecursion (IsPiece (width - margin)) ps → AllByRecursion (IsWithin width) (filled width margin line ps)
filled-fit width margin room [] line within are = (within, tt)
filled-fit width margin room (p ∷ ps) line within are =
    more_lines width margin line p ps (fits width line p) refl within
    (λ fit. filled-fit width margin room ps (line ++ p) (longer width (width - margin) line p are.0 fit) are.1)
    (filled-fit width margin room ps (blanks margin ++ p) (begun width margin p room are.0) are.1)

-- no line of a broken text is wider
pub broken-within : (width front margin : ℕ) (text : List ℕ) → front ≤ width → margin < width
    → AllByRecursion (IsWithin width) (broken width front margin text)
broken-within width front margin text le room =
    let len = length-replicate {A = ℕ} front 32 in
    let left = trimmed-le (blanks front) in
    filled-fit width margin room (pieces (width - margin) [] text) (blanks front) (omega (arith, len, le), omega (arith, len, left, le))
    (pieces-fit (width - margin) (omega (arith, room)) text [] refl (omega (arith, room)))

pub broken-fit : (width front margin : ℕ) (text : List ℕ) → front ≤ width → margin < width → All (IsWithin width) (broken width front margin text)
broken-fit width front margin text le room =
    All-from_recursion (IsWithin width) (broken width front margin text) (broken-within width front margin text le room)
