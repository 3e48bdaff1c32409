-- All classes together have no more ranks than there are.
use Rattle.std.proofs.Common.{◌≡◌, refl, sym, ap, ◌∙◌, subst, ℕ, zero, suc, ◌+◌, ◌-◌, ◌<◌, ◌≤◌, ◌==◌, Bool, true, false, cond, Option, Some, None, List, [], ◌∷◌, length, arith}
use Rattle.std.proofs.lemmas.Bool.{eqb-true}
use Rattle.std.specs.List.{slice_get}
use Rattle.class_stretches.specs.Classes.{ranks_in}
use Rattle.order_classes.specs.declared.rows.ClassRow.{ClassRow}
use Rattle.order_classes.specs.declared.rows.Letters.{Letters}
use Rattle.class_stretches.specs.declared.stretch.Stretch.{Stretch}
use Rattle.class_stretches.specs.Stretches.{same_class, end_from, AreStretches, runs_with}
use Rattle.book_rows.specs.Totals.{all_in, orders_with}

-- the ranks of so many classes from this one on, of stretches that begin here
abbrev ranks_of : List Stretch → ℕ → ℕ → ℕ → ℕ
ranks_of ss low k zero = 0
ranks_of ss low k (suc n) = ranks_in (runs_with (Some k) low ss) + ranks_of ss low (suc k) n

-- so many classes from this one on, one of which has these ranks
abbrev one_of : Option ℕ → ℕ → ℕ → ℕ → ℕ
one_of c m k zero = 0
one_of c m k (suc n) = cond (same_class (Some k) c) m 0 + one_of c m (suc k) n

none-has : (m k n : ℕ) → one_of None m k n ≡ 0
none-has m k zero = refl
none-has m k (suc n) = let rest = none-has m (suc k) n in omega (arith, rest)

none-later : (c m k n : ℕ) → c < k → one_of (Some c) m k n ≡ 0
none-later c m k zero lt = refl
none-later c m k (suc n) lt = at (k == c) refl (none-later c m (suc k) n (omega (arith, lt)))
  where
    at : (b : Bool) → (k == c) ≡ b → one_of (Some c) m (suc k) n ≡ 0 → cond b m 0 + one_of (Some c) m (suc k) n ≡ 0
    at true e rest = let same = eqb-true k c e in absurd (omega (arith, same, lt))
    at false e rest = omega (arith, rest)

once : (c : Option ℕ) (m k n : ℕ) → one_of c m k n ≤ m
once None m k n = let e = none-has m k n in omega (arith, e)
once (Some c) m k zero = omega arith
once (Some c) m k (suc n) = at (k == c) refl (once (Some c) m (suc k) n)
  where
    at : (b : Bool) → (k == c) ≡ b → one_of (Some c) m (suc k) n ≤ m → cond b m 0 + one_of (Some c) m (suc k) n ≤ m
    at true e rest =
        let same = eqb-true k c e in
        let none = none-later c m (suc k) n (omega (arith, same)) in
        omega (arith, none)
    at false e rest = omega (arith, rest)

class-next : (k low : ℕ) (s : Stretch) (ss : List Stretch)
    → ranks_in (runs_with (Some k) low (s ∷ ss)) ≡ cond (same_class (Some k) s.class) (s.end - low) 0 + ranks_in (runs_with (Some k) s.end ss)
class-next k low s ss = at (same_class (Some k) s.class)
  where
    at : (b : Bool) → ranks_in (cond b (record { first = low; end = s.end } ∷ runs_with (Some k) s.end ss) (runs_with (Some k) s.end ss))
        ≡ cond b (s.end - low) 0 + ranks_in (runs_with (Some k) s.end ss)
    at true = refl
    at false = omega arith

classes-next : (s : Stretch) (ss : List Stretch) (low k n : ℕ) → ranks_of (s ∷ ss) low k n ≡ one_of s.class (s.end - low) k n + ranks_of ss s.end k n
classes-next s ss low k zero = refl
classes-next s ss low k (suc n) =
    let here = class-next k low s ss in
    let rest = classes-next s ss low (suc k) n in
    omega (arith, here, rest)

no-ranks : (low k n : ℕ) → ranks_of [] low k n ≡ 0
no-ranks low k zero = refl
no-ranks low k (suc n) = let rest = no-ranks low (suc k) n in omega (arith, rest)

pub ranks-few : (ss : List Stretch) (low k n : ℕ) → AreStretches low ss → low + ranks_of ss low k n ≤ end_from low ss
ranks-few [] low k n a = let e = no-ranks low k n in omega (arith, e)
ranks-few (s ∷ ss) low k n a =
    let next = classes-next s ss low k n in
    let here = once s.class (s.end - low) k n in
    let rest = ranks-few ss s.end k n a.2 in
    let some = a.0 in
    omega (arith, next, here, rest, some)

-- rows with these counts have them together
pub rows-together : (ss : List Stretch) (k : ℕ) (rows : List ClassRow)
    → ((j : ℕ) (row : ClassRow) → slice_get rows j ≡ Some row → row.count ≡ ranks_in (runs_with (Some (k + j)) 0 ss))
    → all_in rows ≡ ranks_of ss 0 k (length rows)
rows-together ss k [] each = refl
rows-together ss k (row ∷ rows) each =
    let place : k + 0 ≡ k = omega arith in
    let first : row.count ≡ ranks_in (runs_with (Some k) 0 ss) = each 0 row refl ∙ ap (λ i. ranks_in (runs_with (Some i) 0 ss)) place in
    let rest = rows-together ss (suc k) rows
    (λ j r at. (let next : k + suc j ≡ suc k + j = omega arith in each (suc j) r at ∙ ap (λ i. ranks_in (runs_with (Some i) 0 ss)) next)) in
    omega (arith, first, rest)

pub some-few : (has : Letters → Bool) (rows : List ClassRow) → orders_with has rows ≤ all_in rows
some-few has [] = omega arith
some-few has (row ∷ rows) =
    let rest = some-few has rows in
    let first = at (has row.letters) in
    omega (arith, rest, first)
  where
    at : (b : Bool) → cond b row.count 0 ≤ row.count
    at true = omega arith
    at false = omega arith
