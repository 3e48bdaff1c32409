-- Texts without the blanks at their end.
use Rattle.std.proofs.Common.{◌≡◌, ℕ, ◌+◌, ◌≤◌, Bool, true, false, cond, List, [], ◌∷◌, ◌++◌, length, reverse, refl, sym, ap, ◌∙◌, arith}
use Rattle.std.proofs.lemmas.List.{reverse-append, length-reverse, reverse-reverse}
use Rattle.std.specs.Prelude.{◌==◌}
use Rattle.shown_texts.specs.Characters.{trimmed, without_blanks}

-- one character more at the end
by_last : (xs : List ℕ) (c : ℕ) (b : Bool) → (c == 32) ≡ b → reverse (without_blanks (c ∷ reverse xs)) ≡ cond b (trimmed xs) (xs ++ c ∷ [])
by_last xs c true e = rw e refl
by_last xs c false e = rw e (ap reverse (sym (reverse-append xs (c ∷ []))) ∙ reverse-reverse (xs ++ c ∷ []))

pub trimmed-push : (xs : List ℕ) (c : ℕ) → trimmed (xs ++ c ∷ []) ≡ cond (c == 32) (trimmed xs) (xs ++ c ∷ [])
trimmed-push xs c = ap (λ (l : List ℕ). reverse (without_blanks l)) (reverse-append xs (c ∷ [])) ∙ by_last xs c (c == 32) refl

-- blanks at the front of two parts
fewer : (a : ℕ) (xs ys : List ℕ) (b : Bool) → (a == 32) ≡ b → length (without_blanks (xs ++ ys)) ≤ length (without_blanks xs) + length ys
    → length (xs ++ ys) ≤ length xs + length ys → length (without_blanks (a ∷ xs ++ ys)) ≤ length (without_blanks (a ∷ xs)) + length ys
fewer a xs ys true e h all = rw e h
fewer a xs ys false e h all = rw e (omega (arith, all))

long : (xs ys : List ℕ) → length (xs ++ ys) ≤ length xs + length ys
long [] ys = omega arith
long (a ∷ xs) ys = let h = long xs ys in omega (arith, h)

front : (xs ys : List ℕ) → length (without_blanks (xs ++ ys)) ≤ length (without_blanks xs) + length ys
front [] [] = omega arith
front [] (b ∷ ys) = whole (b ∷ ys)
  where
    whole : (cs : List ℕ) → length (without_blanks cs) ≤ 0 + length cs
    whole [] = omega arith
    whole (c ∷ cs) = by (c == 32) refl (whole cs)
      where
        by : (q : Bool) → (c == 32) ≡ q → length (without_blanks cs) ≤ 0 + length cs → length (without_blanks (c ∷ cs)) ≤ 0 + length (c ∷ cs)
        by true e h = rw e (omega (arith, h))
        by false e h = rw e (omega arith)
front (a ∷ xs) ys = fewer a xs ys (a == 32) refl (front xs ys) (long xs ys)

-- of two parts no more is left than the first one and what is left of the second one
pub trimmed-append : (xs ys : List ℕ) → length (trimmed (xs ++ ys)) ≤ length xs + length (trimmed ys)
trimmed-append xs ys =
    let h = front (reverse ys) (reverse xs) in
    let a = length-reverse (without_blanks (reverse ys ++ reverse xs)) in
    let b = length-reverse (without_blanks (reverse ys)) in
    let c = length-reverse xs in
    let d : length (trimmed (xs ++ ys)) ≡ length (reverse (without_blanks (reverse ys ++ reverse xs))) =
    ap (λ (l : List ℕ). length (reverse (without_blanks l))) (reverse-append xs ys) in
    omega (arith, h, a, b, c, d)

pub trimmed-le : (xs : List ℕ) → length (trimmed xs) ≤ length xs
trimmed-le xs = let h = front [] (reverse xs) in let a = length-reverse (without_blanks (reverse xs)) in let c = length-reverse xs in omega (arith, h, a, c)
