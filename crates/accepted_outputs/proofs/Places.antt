-- Two lists place by place.
use Rattle.std.proofs.Common.{◌≡◌, ◌≢◌, refl, sym, ap, ◌∙◌, subst, ℕ, zero, suc, ◌<◌, min, Bool, true, false, eqb, eqb-true, eq-eqb, List, [], ◌∷◌, ◌++◌}
use Rattle.std.proofs.Common.{length, take, get_or, Some, slice_get, arith}
use Rattle.std.proofs.lemmas.Bool.{false≢true}
use Rattle.std.specs.List.{AllZip}
use Rattle.fact_books.specs.Entries.{Told}
use Rattle.fact_books.specs.Sweep.{values_of}
use Rattle.accepted_outputs.specs.Judging.{IsFirstDifference}

some-same : {A : Type 0} (a b : A) → Some a ≡ Some b → a ≡ b
some-same a b e = cc

-- lists that agree before the end of the shorter one and there are equal
pub agree-all : {A : Type 0} (xs ys : List A) (n : ℕ) → n ≡ min (length xs) (length ys) → ((k : ℕ) → k < n → slice_get xs k ≡ slice_get ys k)
    → slice_get xs n ≡ slice_get ys n → xs ≡ ys
agree-all [] [] n is before there = refl
agree-all [] (y ∷ ys) zero is before there = cc
agree-all [] (y ∷ ys) (suc n) is before there = absurd (omega (arith, is))
agree-all (x ∷ xs) [] zero is before there = cc
agree-all (x ∷ xs) [] (suc n) is before there = absurd (omega (arith, is))
agree-all (x ∷ xs) (y ∷ ys) zero is before there = absurd (omega (arith, is))
agree-all (x ∷ xs) (y ∷ ys) (suc n) is before there =
    let head : x ≡ y = some-same x y (before 0 (omega arith)) in
    let tail : xs ≡ ys = agree-all xs ys n (omega (arith, is)) (λ k lt. before (suc k) (omega (arith, lt))) there in
    λ i. head i ∷ tail i

pub ended-alike : {A : Type 0} (xs ys : List A) (n : ℕ) → n ≡ length xs → length xs ≡ length ys → slice_get xs n ≡ slice_get ys n
ended-alike [] [] n is same = refl
ended-alike [] (y ∷ ys) n is same = absurd (omega (arith, same))
ended-alike (x ∷ xs) [] n is same = absurd (omega (arith, same))
ended-alike (x ∷ xs) (y ∷ ys) zero is same = absurd (omega (arith, is))
ended-alike (x ∷ xs) (y ∷ ys) (suc n) is same = ended-alike xs ys n (omega (arith, is)) (omega (arith, same))

-- an item of a list, and its place
pub there-is : {A : Type 0} (xs : List A) (n : ℕ) (d : A) → n < length xs → slice_get xs n ≡ Some (get_or xs n d)
there-is [] n d lt = absurd (omega (arith, lt))
there-is (x ∷ xs) zero d lt = refl
there-is (x ∷ xs) (suc n) d lt = there-is xs n d (omega (arith, lt))

-- lists that agree up to a place and there agree up to the next
pub one-more : {A : Type 0} (xs ys : List A) (n m : ℕ) → m ≡ suc n → ((k : ℕ) → k < n → slice_get xs k ≡ slice_get ys k) → slice_get xs n ≡ slice_get ys n
    → (k : ℕ) → k < m → slice_get xs k ≡ slice_get ys k
one-more xs ys n m is before here k lt = at (eqb k n) refl
  where
    at : (b : Bool) → eqb k n ≡ b → slice_get xs k ≡ slice_get ys k
    at true e =
        let same = eqb-true k n e in
        subst (λ j. slice_get xs j ≡ slice_get ys j) (sym same) here
    at false e =
        let apart : k ≡ n → ⊥ = λ f. false≢true (sym e ∙ eq-eqb k n f) in
        before k (omega (arith, lt, is, apart))

-- ---- reports

-- the value of a rank is the outcome with its number
pub value-at : (t : List Told) (numbers : List ℕ) (rank : ℕ) → rank < length numbers
    → slice_get (values_of t numbers) rank ≡ Some (get_or t (get_or numbers rank 0) [])
value-at t [] rank lt = absurd (omega (arith, lt))
value-at t (n ∷ numbers) zero lt = refl
value-at t (n ∷ numbers) (suc rank) lt = value-at t numbers rank (omega (arith, lt))

pub many : (t : List Told) (numbers : List ℕ) → length (values_of t numbers) ≡ length numbers
many t [] = refl
many t (n ∷ numbers) = ap suc (many t numbers)

module _ (t u : List Told) (ns ms : List ℕ) (report other : List Told) (r : ℕ) (reports : values_of t ns ≡ report) (others : values_of u ms ≡ other)
    (lt : r < length ns) (less : r < length ms) where
  first : slice_get report r ≡ Some (get_or t (get_or ns r 0) [])
  first = ap (λ l. slice_get l r) (sym reports) ∙ value-at t ns r lt

  second : slice_get other r ≡ Some (get_or u (get_or ms r 0) [])
  second = ap (λ l. slice_get l r) (sym others) ∙ value-at u ms r less

  pub same-values : get_or t (get_or ns r 0) [] ≡ get_or u (get_or ms r 0) [] → slice_get report r ≡ slice_get other r
  same-values e = first ∙ ap (λ o. Some o) e ∙ sym second

  pub apart-values : (get_or t (get_or ns r 0) [] ≡ get_or u (get_or ms r 0) [] → ⊥) → slice_get report r ≢ slice_get other r
  apart-values differ e = differ (some-same _ _ (sym first ∙ e ∙ second))

-- ---- verdicts

-- a report that differs is another one
pub differs : (report other : List Told) (place : ℕ × ℕ) → IsFirstDifference report other place → report ≢ other
differs report other place is e = is.rank.there (ap (λ l. slice_get l place.0) e)

-- where each of the first reports differs, none of them is equal
pub none-equal : (report : List Told) (accepted : List (List Told)) (places : List (ℕ × ℕ)) → AllZip (IsFirstDifference report) accepted places
    → (n : ℕ) → slice_get accepted n ≢ Some report
none-equal report [] places zip n e = cc
none-equal report (a ∷ rest) [] zip n e = zip
none-equal report (a ∷ rest) (p ∷ ps) zip zero e = differs report a p zip.0 (sym (some-same a report e))
none-equal report (a ∷ rest) (p ∷ ps) zip (suc n) e = none-equal report rest ps zip.1 n e

pub taken-there : {A : Type 0} (xs : List A) (i n : ℕ) → n < i → slice_get (take i xs) n ≡ slice_get xs n
taken-there [] zero n lt = absurd (omega (arith, lt))
taken-there [] (suc i) n lt = refl
taken-there (x ∷ xs) zero n lt = absurd (omega (arith, lt))
taken-there (x ∷ xs) (suc i) zero lt = refl
taken-there (x ∷ xs) (suc i) (suc n) lt = taken-there xs i n (omega (arith, lt))

pub zip-push : {A B : Type 0} (R : A → B → Type 0) (xs : List A) (ys : List B) (x : A) (y : B) → AllZip R xs ys → R x y
    → AllZip R (xs ++ x ∷ []) (ys ++ y ∷ [])
zip-push R [] [] x y zip r = (r, tt)
zip-push R [] (b ∷ ys) x y zip r = absurd zip
zip-push R (a ∷ xs) [] x y zip r = absurd zip
zip-push R (a ∷ xs) (b ∷ ys) x y zip r = (zip.0, zip-push R xs ys x y zip.1 r)
