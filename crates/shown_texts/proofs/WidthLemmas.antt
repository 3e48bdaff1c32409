-- How wide names are when they are cut, numbered and shortened.
use Rattle.std.proofs.Common.{◌≡◌, ℕ, suc, ◌+◌, ◌-◌, ◌<◌, ◌≤◌, Bool, true, false, cond, List, [], ◌∷◌, ◌++◌, length, take, map, refl, ap, arith}
use Rattle.std.proofs.lemmas.Bool.{leb-false, leb-true}
use Rattle.std.proofs.lemmas.Fmt.{length-decimal-le}
use Rattle.std.proofs.lemmas.List.{length-append, length-take-le}
use Rattle.std.specs.Prelude.{codes, decimal, nat_le, nat_lt}
use Rattle.std.specs.List.{AllByRecursion}
use Rattle.line_moments.specs.declared.moment.Moment.{Moment}
use Rattle.shown_texts.specs.Names.{all_numbered, are_different, cut, numbered, shortened, some_numbered, times}
use Rattle.shown_texts.specs.Orders.{comes_in, width_of, widest_from}
use Rattle.shown_texts.proofs.ListLemmas.{all-cond}

abbrev pub IsUpTo : ℕ → List ℕ → Type 0
IsUpTo most text = length text ≤ most

cut_by : (most : ℕ) (text : List ℕ) (b : Bool) → 0 < most → nat_le (length text) most ≡ b → length (cut most text) ≤ most
cut_by most text true some e = rw e (leb-true (length text) most e)
cut_by most text false some e =
    let a = length-append (take (most - 1) text) (codes "~") in
    let long = leb-false (length text) most e in
    let b = length-take-le (most - 1) text (omega (arith, long)) in
    rw e (omega (arith, a, b, some))

pub cut-fit : (most : ℕ) (text : List ℕ) → 0 < most → length (cut most text) ≤ most
cut-fit most text some = cut_by most text (nat_le (length text) most) some refl

pub numbered-fit : (most : ℕ) (name : List ℕ) (number : ℕ) → 5 ≤ most → number < 1000 → length (numbered most name number) ≤ most
numbered-fit most name number room few =
    let d = length-decimal-le 3 number (omega arith) (omega (arith, few)) (omega (arith, few)) in
    let a = cut-fit (most - 1 - length (decimal number)) name (omega (arith, d, room)) in
    let b = length-append (cut (most - 1 - length (decimal number)) name) (codes "#" ++ decimal number) in
    omega (arith, a, b, d, room)

either : (most : ℕ) (x y : List ℕ) (b : Bool) → length x ≤ most → length y ≤ most → length (cond b x y) ≤ most
either most x y true a b = a
either most x y false a b = b

some-fit : (most : ℕ) (cuts : List (List ℕ)) (number : ℕ) (names : List (List ℕ)) → 5 ≤ most → number + length names ≤ 1000
    → AllByRecursion (IsUpTo most) (some_numbered most cuts number names)
some-fit most cuts number [] room few = tt
some-fit most cuts number (name ∷ names) room few = (
  either most (numbered most name number) (cut most name) (nat_lt 1 (times (cut most name) cuts)) (numbered-fit most name number room (omega (arith, few)))
      (cut-fit most name (omega (arith, room))),
  some-fit most cuts (number + 1) names room (omega (arith, few)),
)

all-fit : (most number : ℕ) (names : List (List ℕ)) → 5 ≤ most → number + length names ≤ 1000 → AllByRecursion (IsUpTo most) (all_numbered most number names)
all-fit most number [] room few = tt
all-fit most number (name ∷ names) room few =
    (numbered-fit most name number room (omega (arith, few)), all-fit most (number + 1) names room (omega (arith, few)))

pub shortened-fit : (most : ℕ) (names : List (List ℕ)) → 5 ≤ most → length names ≤ 1000 → AllByRecursion (IsUpTo most) (shortened most names)
shortened-fit most names room few =
    all-cond (IsUpTo most) (are_different (some_numbered most (map (cut most) names) 0 names)) (some_numbered most (map (cut most) names) 0 names)
    (all_numbered most 0 names) (some-fit most (map (cut most) names) 0 names room (omega (arith, few))) (all-fit most 0 names room (omega (arith, few)))

-- ---- and how many they are

some-long : (most : ℕ) (cuts : List (List ℕ)) (number : ℕ) (names : List (List ℕ)) → length (some_numbered most cuts number names) ≡ length names
some-long most cuts number [] = refl
some-long most cuts number (name ∷ names) = ap suc (some-long most cuts (number + 1) names)

all-long : (most number : ℕ) (names : List (List ℕ)) → length (all_numbered most number names) ≡ length names
all-long most number [] = refl
all-long most number (name ∷ names) = ap suc (all-long most (number + 1) names)

as_long : (n : ℕ) (xs ys : List (List ℕ)) (b : Bool) → length xs ≡ n → length ys ≡ n → length (cond b xs ys) ≡ n
as_long n xs ys true a b = a
as_long n xs ys false a b = b

pub shortened-long : (most : ℕ) (names : List (List ℕ)) → length (shortened most names) ≡ length names
shortened-long most names =
    as_long (length names) (some_numbered most (map (cut most) names) 0 names) (all_numbered most 0 names)
    (are_different (some_numbered most (map (cut most) names) 0 names)) (some-long most (map (cut most) names) 0 names) (all-long most 0 names)

-- ---- the widest of them

pub widest-le : (most : ℕ) (ms : List Moment) (k : ℕ) (names : List (List ℕ)) → AllByRecursion (IsUpTo most) names → widest_from ms k names ≤ most
widest-le most ms k [] are = omega arith
widest-le most ms k (name ∷ names) are =
    let a : width_of ms k name ≤ most = by (comes_in ms k) in
    let b = widest-le most ms (k + 1) names are.1 in
    omega (arith, a, b)
  where
    by : (b : Bool) → cond b (length name) 0 ≤ most
    by true = are.0
    by false = omega arith
