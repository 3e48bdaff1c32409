-- Shortened names differ.
use Rattle.std.proofs.Common.{◌≡◌, ℕ, zero, suc, ◌+◌, ◌-◌, ◌%◌, ◌^◌, ◌<◌, ◌≤◌, Bool, true, false, cond}
use Rattle.std.proofs.Common.{List, [], ◌∷◌, ◌++◌, length, drop, get_or, map, refl, sym, ap, ◌∙◌, subst, arith}
use Rattle.std.proofs.lemmas.Bool.{and_parts, leb-true}
use Rattle.std.proofs.lemmas.Fmt.{decimal_by_steps, decimal_injective}
use Rattle.std.proofs.lemmas.Slice.Eq.{bytes_eq-Decides}
use Rattle.std.specs.Prelude.{bytes_eq, decimal}
use Rattle.std.specs.List.{AllByRecursion, list_all}
use Rattle.shown_texts.specs.Names.{all_numbered, are_different, cut, is_once, numbered, shortened, some_numbered, times}

-- ---- numbers behind names

-- each is the code of a digit, or a greater one
abbrev AreDigits : List ℕ → Type 0
AreDigits ds = AllByRecursion (λ d. 48 ≤ d) ds

one_more : (ds : List ℕ) (d : ℕ) → AreDigits ds → 48 ≤ d → AreDigits (ds ++ d ∷ [])
one_more [] d are is = (is, tt)
one_more (e ∷ ds) d are is = (are.0, one_more ds d are.1 is)

digits : (n : ℕ) → n < 2 ^ 64 → AreDigits (decimal n)
digits n lt =
    decimal_by_steps (λ m ds. AreDigits ds) (λ m small. (omega arith, tt)) (λ m ds large are. one_more ds (48 + m % 10) are (omega arith)) n lt

-- a number sign is none
no_sign : (ys es : List ℕ) → AreDigits (ys ++ 35 ∷ es) → 48 ≤ 35
no_sign [] es are = are.0
no_sign (y ∷ ys) es are = no_sign ys es are.1

-- what stands behind the last number sign
behind_sign : (xs ys ds es : List ℕ) → AreDigits ds → AreDigits es → xs ++ 35 ∷ ds ≡ ys ++ 35 ∷ es → ds ≡ es
behind_sign [] [] ds es a b h = ap (drop 1) h
behind_sign [] (y ∷ ys) ds es a b h = let e : ds ≡ ys ++ 35 ∷ es = ap (drop 1) h in let no = no_sign ys es (subst AreDigits e a) in absurd (omega (arith, no))
behind_sign (x ∷ xs) [] ds es a b h =
    let e : xs ++ 35 ∷ ds ≡ es = ap (drop 1) h in let no = no_sign xs ds (subst AreDigits (sym e) b) in absurd (omega (arith, no))
behind_sign (x ∷ xs) (y ∷ ys) ds es a b h = behind_sign xs ys ds es a b (ap (drop 1) h)

-- numbered names are the same only where their numbers are
same_number : (most : ℕ) (a b : List ℕ) (i j : ℕ) → i < 2 ^ 64 → j < 2 ^ 64 → numbered most a i ≡ numbered most b j → i ≡ j
same_number most a b i j lt small e =
    decimal_injective i j lt small
    (behind_sign (cut (most - 1 - length (decimal i)) a) (cut (most - 1 - length (decimal j)) b) (decimal i) (decimal j) (digits i lt) (digits j small) e)

numbered-at : (most n : ℕ) (names : List (List ℕ)) (i : ℕ) → i < length names
    → get_or (all_numbered most n names) i [] ≡ numbered most (get_or names i []) (n + i)
numbered-at most n [] i lt = absurd (omega (arith, lt))
numbered-at most n (name ∷ names) zero lt = let e : n ≡ n + 0 = omega arith in ap (numbered most name) e
numbered-at most n (name ∷ names) (suc i) lt =
    let e : n + 1 + i ≡ n + suc i = omega arith in
    numbered-at most (n + 1) names i (omega (arith, lt)) ∙ ap (numbered most (get_or names i [])) e

all-differ : (most : ℕ) (names : List (List ℕ)) → length names < 2 ^ 64 → (i j : ℕ) → i < j → j < length names
    → get_or (all_numbered most 0 names) i [] ≡ get_or (all_numbered most 0 names) j [] → i ≡ j
all-differ most names few i j lt there e =
    let n = same_number most (get_or names i []) (get_or names j []) (0 + i) (0 + j) (omega (arith, few, lt, there)) (omega (arith, few, there))
    (sym (numbered-at most 0 names i (omega (arith, lt, there))) ∙ e ∙ numbered-at most 0 names j there) in
    omega (arith, n)

-- ---- texts of which each is there once

-- the first one counts
first_counts : (t x : List ℕ) (xs : List (List ℕ)) → x ≡ t → times t (x ∷ xs) ≡ suc (times t xs)
first_counts t x xs e = rw ((bytes_eq-Decides t x).1 (sym e)) refl

more : (t x : List ℕ) (xs : List (List ℕ)) (b : Bool) → bytes_eq t x ≡ b → times t xs ≤ times t (x ∷ xs)
more t x xs true e = rw e (omega arith)
more t x xs false e = rw e (omega arith)

once : (t : List ℕ) (xs : List (List ℕ)) (j : ℕ) → j < length xs → get_or xs j [] ≡ t → 1 ≤ times t xs
once t [] j lt e = absurd (omega (arith, lt))
once t (x ∷ xs) zero lt e = let c = first_counts t x xs e in omega (arith, c)
once t (x ∷ xs) (suc j) lt e = let a = once t xs j (omega (arith, lt)) e in let b = more t x xs (bytes_eq t x) refl in omega (arith, a, b)

twice : (t : List ℕ) (xs : List (List ℕ)) (i j : ℕ) → i < j → j < length xs → get_or xs i [] ≡ t → get_or xs j [] ≡ t → 2 ≤ times t xs
twice t [] i j lt there e f = absurd (omega (arith, there))
twice t (x ∷ xs) i zero lt there e f = absurd (omega (arith, lt))
twice t (x ∷ xs) zero (suc j) lt there e f =
    let c = first_counts t x xs e in let a = once t xs j (omega (arith, there)) f in omega (arith, a, c)
twice t (x ∷ xs) (suc i) (suc j) lt there e f =
    let a = twice t xs i j (omega (arith, lt)) (omega (arith, there)) e f in let b = more t x xs (bytes_eq t x) refl in omega (arith, a, b)

passes : (test : List ℕ → Bool) (xs : List (List ℕ)) (j : ℕ) → j < length xs → list_all test xs ≡ true → test (get_or xs j []) ≡ true
passes test [] j lt e = absurd (omega (arith, lt))
passes test (x ∷ xs) zero lt e = (and_parts (test x) (list_all test xs) e).0
passes test (x ∷ xs) (suc j) lt e = passes test xs j (omega (arith, lt)) (and_parts (test x) (list_all test xs) e).1

once-differ : (xs : List (List ℕ)) → are_different xs ≡ true → (i j : ℕ) → i < j → j < length xs → get_or xs i [] ≡ get_or xs j [] → 2 ≤ 1
once-differ xs different i j lt there e =
    let a = leb-true (times (get_or xs j []) xs) 1 (passes (is_once xs) xs j there different) in
    let b = twice (get_or xs j []) xs i j lt there e refl in
    omega (arith, a, b)

some-length : (most : ℕ) (cuts : List (List ℕ)) (n : ℕ) (names : List (List ℕ)) → length (some_numbered most cuts n names) ≡ length names
some-length most cuts n [] = refl
some-length most cuts n (name ∷ names) = ap suc (some-length most cuts (n + 1) names)

-- ---- shortened names

either : (xs ys : List (List ℕ)) (b : Bool) → are_different xs ≡ b → (i j : ℕ) → i < j → j < length xs
    → (get_or ys i [] ≡ get_or ys j [] → i ≡ j) → get_or (cond b xs ys) i [] ≡ get_or (cond b xs ys) j [] → 2 ≤ 1
either xs ys true e i j lt there others same = once-differ xs e i j lt there same
either xs ys false e i j lt there others same = let n = others same in absurd (omega (arith, n, lt))

pub shortened-differ : (most : ℕ) (names : List (List ℕ)) → length names < 2 ^ 64 → (i j : ℕ) → i < j → j < length names
    → get_or (shortened most names) i [] ≡ get_or (shortened most names) j [] → 2 ≤ 1
shortened-differ most names few i j lt there same =
    let n = some-length most (map (cut most) names) 0 names in
    either (some_numbered most (map (cut most) names) 0 names) (all_numbered most 0 names) _ refl i j lt (omega (arith, n, there))
    (all-differ most names few i j lt there) same
