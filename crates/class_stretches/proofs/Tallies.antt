-- Tallies that are counted stretch by stretch are those of the runs.
use Rattle.std.proofs.Common.{◌≡◌, refl, sym, ap, ◌∙◌, subst, ℕ, zero, suc, ◌+◌, ◌-◌, ◌<◌, ◌≤◌, ◌==◌, Bool, true, false, cond, Option, Some, None, List, [], ◌∷◌, ◌++◌, length, get_or, set, arith}
use Rattle.std.proofs.Common.{⊎_elim}
use Rattle.std.specs.List.{slice_get}
use Rattle.std.proofs.lemmas.Bool.{eqb-true, eqb-false}
use Rattle.class_stretches.specs.Classes.{ranks_in}
use Rattle.class_stretches.specs.declared.stretch.Stretch.{Stretch}
use Rattle.class_stretches.specs.declared.tally.Tally.{Tally}
use Rattle.class_stretches.specs.Stretches.{same_class, MayCome, with_class, AreInOrder, runs_with, tally_of, AreTallies}
use Rattle.class_stretches.specs.Counting.{with_ranks, with_ranks_of, counted, counted_all, AreBelow}
use Rattle.class_stretches.proofs.Ranks.{with-known, with-next, known-or-next}

abbrev pub plus : Tally → ℕ → Tally
plus t n = record { least = t.least; count = t.count + n }

pub ranks-set : (ts : List Tally) (n low end : ℕ) (t : Tally) → n < length ts → t ≡ get_or ts n t
    → set ts n (plus t (end - low)) ≡ with_ranks ts n low end
ranks-set [] n low end t lt is = absurd (omega (arith, lt))
ranks-set (x ∷ ts) zero low end t lt is = ap (λ y. plus y (end - low) ∷ ts) is
ranks-set (x ∷ ts) (suc n) low end t lt is = ap (λ rest. x ∷ rest) (ranks-set ts n low end t (omega (arith, lt)) is)

pub ranks-pushed : (ts : List Tally) (n low end : ℕ) → n ≡ length ts → ts ++ record { least = low; count = end - low } ∷ [] ≡ with_ranks ts n low end
ranks-pushed [] n low end is = refl
ranks-pushed (t ∷ ts) zero low end is = absurd (omega (arith, is))
ranks-pushed (t ∷ ts) (suc n) low end is = ap (λ rest. t ∷ rest) (ranks-pushed ts n low end (omega (arith, is)))

pub below-at : (ts : List Tally) (n low : ℕ) (t : Tally) → AreBelow low ts → n < length ts → t ≡ get_or ts n t → t.count ≤ low
below-at [] n low t b lt is = absurd (omega (arith, lt))
below-at (x ∷ ts) zero low t b lt is = subst (λ (y : Tally). y.count ≤ low) (sym is) b.0
below-at (x ∷ ts) (suc n) low t b lt is = below-at ts n low t b.1 (omega (arith, lt)) is

below-higher : (ts : List Tally) (low high : ℕ) → low ≤ high → AreBelow low ts → AreBelow high ts
below-higher [] low high le b = tt
below-higher (t ∷ ts) low high le b = let first = b.0 in (omega (arith, first, le), below-higher ts low high le b.1)

ranks-below : (ts : List Tally) (n low end : ℕ) → low < end → AreBelow low ts → AreBelow end (with_ranks ts n low end)
ranks-below [] n low end lt b = (omega (arith, lt), tt)
ranks-below (t ∷ ts) zero low end lt b = let first = b.0 in (omega (arith, first, lt), below-higher ts low end (omega (arith, lt)) b.1)
ranks-below (t ∷ ts) (suc n) low end lt b = let first = b.0 in (omega (arith, first, lt), ranks-below ts n low end lt b.1)

pub counted-below : (ts : List Tally) (low : ℕ) (s : Stretch) → low < s.end → AreBelow low ts → AreBelow s.end (counted ts low s)
counted-below ts low s lt b = at s.class
  where
    at : (c : Option ℕ) → AreBelow s.end (with_ranks_of ts c low s.end)
    at None = below-higher ts low s.end (omega (arith, lt)) b
    at (Some n) = ranks-below ts n low s.end lt b

length-known : (ts : List Tally) (n low end : ℕ) → n < length ts → length (with_ranks ts n low end) ≡ length ts
length-known [] n low end lt = absurd (omega (arith, lt))
length-known (t ∷ ts) zero low end lt = refl
length-known (t ∷ ts) (suc n) low end lt = ap suc (length-known ts n low end (omega (arith, lt)))

length-next : (ts : List Tally) (n low end : ℕ) → n ≡ length ts → length (with_ranks ts n low end) ≡ length ts + 1
length-next [] n low end is = refl
length-next (t ∷ ts) zero low end is = absurd (omega (arith, is))
length-next (t ∷ ts) (suc n) low end is = let rest = length-next ts n low end (omega (arith, is)) in omega (arith, rest)

length-with : (ts : List Tally) (c : Option ℕ) (low end : ℕ) → MayCome (length ts) c → length (with_ranks_of ts c low end) ≡ with_class (length ts) c
length-with ts None low end may = refl
length-with ts (Some n) low end may =
    ⊎_elim (λ h. length-known ts n low end h ∙ sym (with-known (length ts) n h))
    (λ h. length-next ts n low end h ∙ sym (ap (λ k. with_class (length ts) (Some k)) h ∙ with-next (length ts))) (known-or-next (length ts) n may)

pub counted-length : (ts : List Tally) (low : ℕ) (s : Stretch) → MayCome (length ts) s.class → length (counted ts low s) ≡ with_class (length ts) s.class
counted-length ts low s may = length-with ts s.class low s.end may

-- ---- what the tallies are in the end

same-place : (ts : List Tally) (n low end : ℕ) (t : Tally) → slice_get ts n ≡ Some t → slice_get (with_ranks ts n low end) n ≡ Some (plus t (end - low))
same-place [] n low end t e = absurd (let f : None ≡ Some t = e in cc)
same-place (x ∷ ts) zero low end t e = let f : Some x ≡ Some t = e in let g : x ≡ t = cc in ap (λ y. Some (plus y (end - low))) g
same-place (x ∷ ts) (suc n) low end t e = same-place ts n low end t e

other-place : (ts : List Tally) (k n low end : ℕ) (t : Tally) → (n ≡ k → ⊥) → slice_get ts n ≡ Some t → slice_get (with_ranks ts k low end) n ≡ Some t
other-place [] k n low end t ne e = absurd (let f : None ≡ Some t = e in cc)
other-place (x ∷ ts) zero zero low end t ne e = absurd (ne refl)
other-place (x ∷ ts) zero (suc n) low end t ne e = e
other-place (x ∷ ts) (suc k) zero low end t ne e = e
other-place (x ∷ ts) (suc k) (suc n) low end t ne e = other-place ts k n low end t (λ h. ne (ap suc h)) e

next-place : (ts : List Tally) (n low end : ℕ) → n ≡ length ts → slice_get (with_ranks ts n low end) n ≡ Some (record { least = low; count = end - low })
next-place [] zero low end is = refl
next-place [] (suc n) low end is = absurd (omega (arith, is))
next-place (t ∷ ts) zero low end is = absurd (omega (arith, is))
next-place (t ∷ ts) (suc n) low end is = next-place ts n low end (omega (arith, is))

-- a class that is there gets the ranks that come
counted-known : (ss : List Stretch) (low : ℕ) (ts : List Tally) (n : ℕ) (t : Tally) → slice_get ts n ≡ Some t
    → slice_get (counted_all ts low ss) n ≡ Some (plus t (ranks_in (runs_with (Some n) low ss)))
counted-known [] low ts n t e = e ∙ ap (λ k. Some (record { least = t.least; count = k })) (let h : t.count ≡ t.count + 0 = omega arith in h)
counted-known (s ∷ ss) low ts n t e = at s.class (λ ts' t' e'. counted-known ss s.end ts' n t' e')
  where
    at : (c : Option ℕ)
        → ((ts' : List Tally) (t' : Tally) → slice_get ts' n ≡ Some t'
        → slice_get (counted_all ts' s.end ss) n ≡ Some (plus t' (ranks_in (runs_with (Some n) s.end ss))))
        → slice_get (counted_all (with_ranks_of ts c low s.end) s.end ss) n
        ≡ Some (plus t (ranks_in (cond (same_class (Some n) c) (record { first = low; end = s.end } ∷ runs_with (Some n) s.end ss) (runs_with (Some n) s.end ss))))
    at None f = f ts t e
    at (Some k) f = by (n == k) refl
      where
        by : (b : Bool) → (n == k) ≡ b → slice_get (counted_all (with_ranks ts k low s.end) s.end ss) n
            ≡ Some (plus t (ranks_in (cond b (record { first = low; end = s.end } ∷ runs_with (Some n) s.end ss) (runs_with (Some n) s.end ss))))
        by true is =
            let same : slice_get (with_ranks ts k low s.end) n ≡ Some (plus t (s.end - low)) =
            subst (λ j. slice_get (with_ranks ts j low s.end) n ≡ Some (plus t (s.end - low))) (eqb-true n k is) (same-place ts n low s.end t e) in
            f (with_ranks ts k low s.end) (plus t (s.end - low)) same ∙ ap (λ x. Some (record { least = t.least; count = x })) (omega arith)
        by false is = f (with_ranks ts k low s.end) t (other-place ts k n low s.end t (eqb-false n k is) e)

-- and one that comes has its runs alone
counted-new : (ss : List Stretch) (low : ℕ) (ts : List Tally) (m n : ℕ) → AreInOrder (length ts) ss m → length ts ≤ n → n < m
    → slice_get (counted_all ts low ss) n ≡ Some (tally_of (runs_with (Some n) low ss))
counted-new [] low ts m n o up lt = absurd (omega (arith, o, up, lt))
counted-new (s ∷ ss) low ts m n o up lt = at s.class o.0 o.1 (λ ts' o' up'. counted-new ss s.end ts' m n o' up' lt)
  where
    at : (c : Option ℕ) → MayCome (length ts) c → AreInOrder (with_class (length ts) c) ss m
        → ((ts' : List Tally) → AreInOrder (length ts') ss m → length ts' ≤ n
        → slice_get (counted_all ts' s.end ss) n ≡ Some (tally_of (runs_with (Some n) s.end ss)))
        → slice_get (counted_all (with_ranks_of ts c low s.end) s.end ss) n
        ≡ Some (tally_of (cond (same_class (Some n) c) (record { first = low; end = s.end } ∷ runs_with (Some n) s.end ss) (runs_with (Some n) s.end ss)))
    at None may rest f = f ts rest up
    at (Some k) may rest f = by (n == k) refl
      where
        by : (b : Bool) → (n == k) ≡ b → slice_get (counted_all (with_ranks ts k low s.end) s.end ss) n
            ≡ Some (tally_of (cond b (record { first = low; end = s.end } ∷ runs_with (Some n) s.end ss) (runs_with (Some n) s.end ss)))
        by true is =
            let same = eqb-true n k is in
            let next : n ≡ length ts = omega (arith, same, may, up) in
            let here = subst (λ j. slice_get (with_ranks ts j low s.end) n ≡ Some (record { least = low; count = s.end - low })) same
            (next-place ts n low s.end next) in
            counted-known ss s.end (with_ranks ts k low s.end) n (record { least = low; count = s.end - low }) here
        by false is =
            let long = length-with ts (Some k) low s.end may in
            let ne = eqb-false n k is in
            let fits : length (with_ranks ts k low s.end) ≤ n =
            ⊎_elim (λ h. let e = length-known ts k low s.end h in omega (arith, e, up))
            (λ h. let e = length-next ts k low s.end h in omega (arith, e, up, ne, h)) (known-or-next (length ts) k may) in
            f (with_ranks ts k low s.end) (subst (λ j. AreInOrder j ss m) (sym long) rest) fits

counted-all-length : (ss : List Stretch) (low : ℕ) (ts : List Tally) (m : ℕ) → AreInOrder (length ts) ss m → length (counted_all ts low ss) ≡ m
counted-all-length [] low ts m o = o
counted-all-length (s ∷ ss) low ts m o =
    counted-all-length ss s.end (counted ts low s) m (subst (λ j. AreInOrder j ss m) (sym (counted-length ts low s o.0)) o.1)

pub all-tallies : (ss : List Stretch) (m : ℕ) → AreInOrder 0 ss m → AreTallies ss m (counted_all [] 0 ss)
all-tallies ss m o = record {
  all = counted-all-length ss 0 [] m o;
  each = λ n lt. counted-new ss 0 [] m n o (omega arith) lt;
}
