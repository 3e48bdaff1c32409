-- Broken texts: their lines are the text, and no line is too wide.
use Rattle.std.proofs.Common.{◌≡◌, ℕ, ◌-◌, ◌≤◌, Bool, true, false, List, [], ◌∷◌, ◌++◌, length, drop, refl, sym, ap, ◌∙◌, append_assoc, flat_map, arith}
use Rattle.std.proofs.lemmas.List.{drop-append-le, length-replicate}
use Rattle.std.proofs.Math.Seq.{drop-append_seam}
use Rattle.shown_texts.specs.Characters.{blanks}
use Rattle.shown_texts.specs.Breaking.{broken, ends_piece, filled, fits, pieces}
use Rattle.shown_texts.specs.Laws.{unbroken}

-- pieces put together
abbrev whole : List (List ℕ) → List ℕ
whole [] = []
whole (p ∷ ps) = p ++ whole ps

more_whole : (most c : ℕ) (cs piece : List ℕ) (b : Bool) → ends_piece most c (piece ++ c ∷ []) ≡ b
    → whole (pieces most [] cs) ≡ cs → whole (pieces most (piece ++ c ∷ []) cs) ≡ (piece ++ c ∷ []) ++ cs
    → whole (pieces most piece (c ∷ cs)) ≡ piece ++ c ∷ cs
more_whole most c cs piece true e new on =
    rw e (ap (λ (l : List ℕ). (piece ++ c ∷ []) ++ l) new ∙ append_assoc piece (c ∷ []) cs)
more_whole most c cs piece false e new on = rw e (on ∙ append_assoc piece (c ∷ []) cs)

pieces-whole : (most : ℕ) (cs piece : List ℕ) → whole (pieces most piece cs) ≡ piece ++ cs
pieces-whole most [] [] = refl
pieces-whole most [] (c ∷ piece) = refl
pieces-whole most (c ∷ cs) piece =
    more_whole most c cs piece (ends_piece most c (piece ++ c ∷ [])) refl (pieces-whole most cs []) (pieces-whole most cs (piece ++ c ∷ []))

-- in further lines each has its margin
further : (margin : ℕ) (lines : List (List ℕ)) → unbroken margin margin lines ≡ flat_map (drop margin) lines
further margin [] = refl
further margin (l ∷ ls) = refl

behind_margin : (margin : ℕ) (p : List ℕ) → drop margin (blanks margin ++ p) ≡ p
behind_margin margin p =
    ap (λ (n : ℕ). drop n (blanks margin ++ p)) (sym (length-replicate margin 32)) ∙ drop-append_seam (blanks margin) p

more_lines : (width front margin : ℕ) (line p : List ℕ) (ps : List (List ℕ)) (b : Bool) → fits width line p ≡ b → front ≤ length line
    → unbroken front margin (filled width margin (line ++ p) ps) ≡ drop front (line ++ p) ++ whole ps
    → unbroken margin margin (filled width margin (blanks margin ++ p) ps) ≡ drop margin (blanks margin ++ p) ++ whole ps
    → unbroken front margin (filled width margin line (p ∷ ps)) ≡ drop front line ++ whole (p ∷ ps)
more_lines width front margin line p ps true e le on new =
    rw e (on ∙ ap (λ (l : List ℕ). l ++ whole ps) (drop-append-le front line p le) ∙ append_assoc (drop front line) p (whole ps))
more_lines width front margin line p ps false e le on new =
    rw e (ap (λ (l : List ℕ). drop front line ++ l) (sym (further margin (filled width margin (blanks margin ++ p) ps))
    ∙ new ∙ ap (λ (l : List ℕ). l ++ whole ps) (behind_margin margin p)))

long : (xs ys : List ℕ) → length xs ≤ length (xs ++ ys)
long [] ys = omega arith
long (x ∷ xs) ys = let h = long xs ys in omega (arith, h)

filled-whole : (width front margin : ℕ) (ps : List (List ℕ)) (line : List ℕ) → front ≤ length line
    → unbroken front margin (filled width margin line ps) ≡ drop front line ++ whole ps
filled-whole width front margin [] line le = refl
filled-whole width front margin (p ∷ ps) line le =
    let a = long line p in
    let b = long (blanks margin) p in
    let c = length-replicate {A = ℕ} margin 32 in
    more_lines width front margin line p ps (fits width line p) refl le
    (filled-whole width front margin ps (line ++ p) (omega (arith, a, le)))
    (filled-whole width margin margin ps (blanks margin ++ p) (omega (arith, b, c)))

-- where a text is broken nothing is lost
pub broken-whole : (width front margin : ℕ) (text : List ℕ) → unbroken front margin (broken width front margin text) ≡ text
broken-whole width front margin text =
    let c = length-replicate {A = ℕ} front 32 in
    let none : drop front (blanks front) ≡ [] = ap (drop front) (sym (append_nil (blanks front))) ∙ behind_margin front [] in
    filled-whole width front margin (pieces (width - margin) [] text) (blanks front) (omega (arith, c))
    ∙ ap (λ (l : List ℕ). l ++ whole (pieces (width - margin) [] text)) none
    ∙ pieces-whole (width - margin) text []
  where
    append_nil : (xs : List ℕ) → xs ++ [] ≡ xs
    append_nil [] = refl
    append_nil (x ∷ xs) = ap (λ (l : List ℕ). x ∷ l) (append_nil xs)
