-- The classes that stretches give are the groups of their ranks.
use Rattle.std.proofs.Common.{◌≡◌, refl, sym, ap, ◌∙◌, subst, ℕ, zero, suc, ◌+◌, ◌<◌, ◌≤◌, ◌==◌, Bool, true, false, cond, nat_le, nat_lt, Option, Some, None, List, [], ◌∷◌, length, map, arith}
use Rattle.std.proofs.Common.{inl, inr, ⊎_elim}
use Rattle.std.specs.List.{slice_get}
use Rattle.std.proofs.lemmas.Bool.{leb-true, ltb-true, le-leb, lt-ltb, and_parts, and_from, or_cases, or_left, or_right, eqb-true, eqb-false}
use Rattle.std.proofs.lemmas.Option.{slice_get_within}
use Rattle.lock_queues.specs.Reasons.{Among}
use Rattle.order_classes.specs.Numbers.{RiseFrom}
use Rattle.class_stretches.specs.Classes.{Run, in_run, in_runs, ranks_in, AreApart, Class, IsClass, AreGroups}
use Rattle.class_stretches.specs.declared.stretch.Stretch.{Stretch}
use Rattle.class_stretches.specs.declared.tally.Tally.{Tally}
use Rattle.class_stretches.specs.Stretches.{class_at, end_from, end_of, same_class, BeginsOther, AreStretches, MayCome, with_class, AreInOrder, Stretched, IsStretched, runs_with, least_of, tally_of, AreTallies}
use Rattle.class_stretches.specs.Groups.{class_by, classes_from, classes_by, tally_of_class, ShowsBy, AllDiffer}
use Rattle.class_stretches.proofs.Ranks.{same-is, same-refl, front-class, past-front, front-or-past, ends-behind, with-known, with-next, known-or-next, class-below}

-- ---- runs of a class

run-parts : (run : Run) (r : ℕ) → in_run run r ≡ true → (run.first ≤ r) × (r < run.end)
run-parts run r e =
    let p = and_parts (nat_le run.first r) (nat_lt r run.end) e in
    (leb-true run.first r p.0, ltb-true r run.end p.1)

run-from : (run : Run) (r : ℕ) → run.first ≤ r → r < run.end → in_run run r ≡ true
run-from run r a b = and_from (nat_le run.first r) (nat_lt r run.end) (le-leb run.first r a) (lt-ltb r run.end b)

-- a rank of the runs is one of the stretches, and of their class
pub runs-within : (c : Option ℕ) (low : ℕ) (ss : List Stretch) (r : ℕ) → AreStretches low ss → in_runs (runs_with c low ss) r ≡ true
    → (low ≤ r) × (r < end_from low ss) × (class_at ss r ≡ c)
runs-within c low [] r a h = absurd (let e : false ≡ true = h in cc)
runs-within c low (s ∷ ss) r a h = at (same_class c s.class) refl h (λ g. runs-within c s.end ss r a.2 g)
  where
    behind : (s.end ≤ r) × (r < end_from s.end ss) × (class_at ss r ≡ c) → (low ≤ r) × (r < end_from s.end ss) × (class_at (s ∷ ss) r ≡ c)
    behind f = let first = a.0 in let from = f.0 in (omega (arith, first, from), f.1, past-front s ss r from ∙ f.2)

    at : (b : Bool) → same_class c s.class ≡ b
        → in_runs (cond b (record { first = low; end = s.end } ∷ runs_with c s.end ss) (runs_with c s.end ss)) r ≡ true
        → (in_runs (runs_with c s.end ss) r ≡ true → (s.end ≤ r) × (r < end_from s.end ss) × (class_at ss r ≡ c))
        → (low ≤ r) × (r < end_from s.end ss) × (class_at (s ∷ ss) r ≡ c)
    at true is g rest =
        ⊎_elim
        (λ k. (let p = run-parts (record { first = low; end = s.end }) r k in
        let lt = p.1 in
        let above = ends-behind s.end ss a.2 in
        (p.0, omega (arith, lt, above), front-class s ss r lt ∙ sym (same-is c s.class is)))) (λ k. behind (rest k))
        (or_cases (in_run (record { first = low; end = s.end }) r) (in_runs (runs_with c s.end ss) r) g)
    at false is g rest = behind (rest g)

-- and each such rank is in them
pub runs-have : (c : Option ℕ) (low : ℕ) (ss : List Stretch) (r : ℕ) → low ≤ r → r < end_from low ss → class_at ss r ≡ c
    → in_runs (runs_with c low ss) r ≡ true
runs-have c low [] r from lt is = absurd (omega (arith, from, lt))
runs-have c low (s ∷ ss) r from lt is =
    ⊎_elim here (λ h. past (same_class c s.class) (runs-have c s.end ss r h lt (sym (past-front s ss r h) ∙ is))) (front-or-past r s.end)
  where
    here : r < s.end → in_runs (runs_with c low (s ∷ ss)) r ≡ true
    here h =
        let own : s.class ≡ c = sym (front-class s ss r h) ∙ is in
        let same : same_class c s.class ≡ true = subst (λ d. same_class c d ≡ true) (sym own) (same-refl c) in
        ap (λ b. in_runs (cond b (record { first = low; end = s.end } ∷ runs_with c s.end ss) (runs_with c s.end ss)) r) same
        ∙ or_left (in_run (record { first = low; end = s.end }) r) (in_runs (runs_with c s.end ss) r)
        (run-from (record { first = low; end = s.end }) r from h)

    past : (b : Bool) → in_runs (runs_with c s.end ss) r ≡ true
        → in_runs (cond b (record { first = low; end = s.end } ∷ runs_with c s.end ss) (runs_with c s.end ss)) r ≡ true
    past true g = or_right (in_run (record { first = low; end = s.end }) r) (in_runs (runs_with c s.end ss) r) g
    past false g = g

apart-lower : (low high : ℕ) (runs : List Run) → low ≤ high → AreApart high runs → AreApart low runs
apart-lower low high [] le a = tt
apart-lower low high (run ∷ runs) le a = let first = a.0 in (omega (arith, le, first), a.1, a.2)

-- runs of a class stand apart, also from a stretch of it before them
apart-both : (c : Option ℕ) (low : ℕ) (ss : List Stretch) → AreStretches low ss
    → AreApart low (runs_with c low ss) × (BeginsOther c ss → AreApart (suc low) (runs_with c low ss))
apart-both c low [] a = (tt, λ h. tt)
apart-both c low (s ∷ ss) a =
    let rest = apart-both c s.end ss a.2 in
    let first = a.0 in
    let skip : AreApart (suc low) (runs_with c s.end ss) = apart-lower (suc low) s.end (runs_with c s.end ss) (omega (arith, first)) rest.0 in (
      at (same_class c s.class) refl rest.1 (apart-lower low s.end (runs_with c s.end ss) (omega (arith, first)) rest.0),
      λ other. subst (λ b. AreApart (suc low) (cond b (record { first = low; end = s.end } ∷ runs_with c s.end ss) (runs_with c s.end ss))) (sym other) skip,
    )
  where
    at : (b : Bool) → same_class c s.class ≡ b → (BeginsOther c ss → AreApart (suc s.end) (runs_with c s.end ss)) → AreApart low (runs_with c s.end ss)
        → AreApart low (cond b (record { first = low; end = s.end } ∷ runs_with c s.end ss) (runs_with c s.end ss))
    at true is rest skip = (omega arith, a.0, rest (subst (λ d. BeginsOther d ss) (sym (same-is c s.class is)) a.1))
    at false is rest skip = skip

pub runs-apart : (c : Option ℕ) (low : ℕ) (ss : List Stretch) → AreStretches low ss → AreApart low (runs_with c low ss)
runs-apart c low ss a = (apart-both c low ss a).0

-- ---- least ranks

with-up-to : (n j k : ℕ) → j ≤ n → n ≤ k → (k == j) ≡ false → with_class n (Some j) ≤ k
with-up-to n j k le up other =
    ⊎_elim (λ h. subst (λ m. m ≤ k) (sym (with-known n j h)) up)
    (λ h. (let ne : k ≡ j → ⊥ = eqb-false k j other in
    let more : n + 1 ≤ k = omega (arith, ne, h, up) in
    subst (λ m. m ≤ k) (sym (ap (λ x. with_class n (Some x)) h ∙ with-next n)) more)) (known-or-next n j le)

-- a number that comes has a rank
pub class-comes : (n : ℕ) (ss : List Stretch) (m k low : ℕ) → AreInOrder n ss m → n ≤ k → k < m
    → (run : Run) × (runs : List Run) × (runs_with (Some k) low ss ≡ run ∷ runs)
class-comes n [] m k low o up lt = absurd (omega (arith, o, up, lt))
class-comes n (s ∷ ss) m k low o up lt = at s.class o.0 o.1 (λ n' o' up'. class-comes n' ss m k s.end o' up' lt)
  where
    at : (c : Option ℕ) → MayCome n c → AreInOrder (with_class n c) ss m
        → ((n' : ℕ) → AreInOrder n' ss m → n' ≤ k → (run : Run) × (runs : List Run) × (runs_with (Some k) s.end ss ≡ run ∷ runs))
        → (run : Run) × (runs : List Run)
        × (cond (same_class (Some k) c) (record { first = low; end = s.end } ∷ runs_with (Some k) s.end ss) (runs_with (Some k) s.end ss) ≡ run ∷ runs)
    at None come rest f = f n rest up
    at (Some j) come rest f = by (k == j) refl
      where
        by : (b : Bool) → (k == j) ≡ b
            → (run : Run) × (runs : List Run)
            × (cond b (record { first = low; end = s.end } ∷ runs_with (Some k) s.end ss) (runs_with (Some k) s.end ss) ≡ run ∷ runs)
        by true is = (record { first = low; end = s.end }, runs_with (Some k) s.end ss, refl)
        by false is = f (with_class n (Some j)) rest (with-up-to n j k come up is)

-- its least rank is one of the stretches'
pub least-inside : (s : Stretched) (k : ℕ) → IsStretched s → k < s.classes → least_of (runs_with (Some k) 0 s.list) < end_of s.list
least-inside s k is lt =
    let some = class-comes 0 s.list s.classes k 0 is.order (omega arith) lt in
    let apart = subst (AreApart 0) some.2 (runs-apart (Some k) 0 s.list is.stretches) in
    let first = or_left (in_run some.0 some.0.first) (in_runs some.1 some.0.first) (run-from some.0 some.0.first (omega arith) apart.1) in
    let within = runs-within (Some k) 0 s.list some.0.first is.stretches (subst (λ xs. in_runs xs some.0.first ≡ true) (sym some.2) first) in
    subst (λ r. r < end_of s.list) (sym (ap least_of some.2)) within.1

pub least-behind : (n : ℕ) (ss : List Stretch) (m k low : ℕ) → AreStretches low ss → AreInOrder n ss m → n ≤ k → k < m
    → low ≤ least_of (runs_with (Some k) low ss)
least-behind n [] m k low a o up lt = absurd (omega (arith, o, up, lt))
least-behind n (s ∷ ss) m k low a o up lt = at s.class o.0 o.1 (λ n' o' up'. least-behind n' ss m k s.end a.2 o' up' lt)
  where
    at : (c : Option ℕ) → MayCome n c → AreInOrder (with_class n c) ss m
        → ((n' : ℕ) → AreInOrder n' ss m → n' ≤ k → s.end ≤ least_of (runs_with (Some k) s.end ss))
        → low ≤ least_of (cond (same_class (Some k) c) (record { first = low; end = s.end } ∷ runs_with (Some k) s.end ss) (runs_with (Some k) s.end ss))
    at None come rest f = let first = a.0 in let h = f n rest up in omega (arith, first, h)
    at (Some j) come rest f = by (k == j) refl
      where
        by : (b : Bool) → (k == j) ≡ b
            → low ≤ least_of (cond b (record { first = low; end = s.end } ∷ runs_with (Some k) s.end ss) (runs_with (Some k) s.end ss))
        by true is = omega arith
        by false is = let first = a.0 in let h = f (with_class n (Some j)) rest (with-up-to n j k come up is) in omega (arith, first, h)

-- least ranks rise with the numbers
pub numbers-rise : (n : ℕ) (ss : List Stretch) (m k l low : ℕ) → AreStretches low ss → AreInOrder n ss m → n ≤ k → k < l → l < m
    → least_of (runs_with (Some k) low ss) < least_of (runs_with (Some l) low ss)
numbers-rise n [] m k l low a o up less lt = absurd (omega (arith, o, up, less, lt))
numbers-rise n (s ∷ ss) m k l low a o up less lt =
    at s.class o.0 o.1 (λ n' o' up'. numbers-rise n' ss m k l s.end a.2 o' up' less lt)
  where
    at : (c : Option ℕ) → MayCome n c → AreInOrder (with_class n c) ss m
        → ((n' : ℕ) → AreInOrder n' ss m → n' ≤ k → least_of (runs_with (Some k) s.end ss) < least_of (runs_with (Some l) s.end ss))
        → least_of (cond (same_class (Some k) c) (record { first = low; end = s.end } ∷ runs_with (Some k) s.end ss) (runs_with (Some k) s.end ss))
        < least_of (cond (same_class (Some l) c) (record { first = low; end = s.end } ∷ runs_with (Some l) s.end ss) (runs_with (Some l) s.end ss))
    at None come rest f = f n rest up
    at (Some j) come rest f = by (k == j) refl (l == j) refl
      where
        by : (b : Bool) → (k == j) ≡ b → (d : Bool) → (l == j) ≡ d
            → least_of (cond b (record { first = low; end = s.end } ∷ runs_with (Some k) s.end ss) (runs_with (Some k) s.end ss))
            < least_of (cond d (record { first = low; end = s.end } ∷ runs_with (Some l) s.end ss) (runs_with (Some l) s.end ss))
        by b is true that = absurd (let e = eqb-true l j that in omega (arith, e, come, up, less))
        by true is false that =
            let e = eqb-true k j is in
            let own : with_class n (Some j) ≤ l = with-up-to n j l come (omega (arith, up, less)) that in
            let h = least-behind (with_class n (Some j)) ss m l s.end a.2 rest own lt in
            let first = a.0 in
            omega (arith, first, h)
        by false is false that = f (with_class n (Some j)) rest (with-up-to n j k come up is)

-- the least rank of runs is one of theirs, and none is less
pub least-is : (runs : List Run) (low : ℕ) (run : Run) (more : List Run) → AreApart low runs → runs ≡ run ∷ more
    → (in_runs runs (least_of runs) ≡ true) × ((r : ℕ) → in_runs runs r ≡ true → least_of runs ≤ r)
least-is [] low run more a e = absurd cc
least-is (x ∷ xs) low run more a e = (
  or_left (in_run x x.first) (in_runs xs x.first) (run-from x x.first (omega arith) a.1),
  λ r h. from-first (x ∷ xs) x.first r (omega arith, a.1, a.2) h,
)
  where
    from-first : (runs : List Run) (first r : ℕ) → AreApart first runs → in_runs runs r ≡ true → first ≤ r
    from-first [] first r apart h = absurd (let f : false ≡ true = h in cc)
    from-first (y ∷ ys) first r apart h =
        let begins = apart.0 in
        let some = apart.1 in
        ⊎_elim (λ g. let p = run-parts y r g in let q = p.0 in omega (arith, q, begins))
        (λ g. let q = from-first ys (suc y.end) r apart.2 g in omega (arith, q, begins, some)) (or_cases (in_run y r) (in_runs ys r) h)

-- ---- ranks of no known class

-- runs with a rank have some
some-ranks : (low : ℕ) (runs : List Run) (r : ℕ) → AreApart low runs → in_runs runs r ≡ true → 0 < ranks_in runs
some-ranks low [] r a h = absurd (let e : false ≡ true = h in cc)
some-ranks low (run ∷ runs) r a h = let some = a.1 in omega (arith, some)

pub none-missing : (s : Stretched) → IsStretched s → ranks_in (runs_with None 0 s.list) ≡ 0 → (r : ℕ) → r < end_of s.list
    → (n : ℕ) × (n < s.classes) × (class_at s.list r ≡ Some n)
none-missing s is none r lt = at (class_at s.list r) refl
  where
    at : (c : Option ℕ) → class_at s.list r ≡ c → (n : ℕ) × (n < s.classes) × (class_at s.list r ≡ Some n)
    at None e =
        absurd (let some = some-ranks 0 (runs_with None 0 s.list) r (runs-apart None 0 s.list is.stretches) (runs-have None 0 s.list r (omega arith) lt e) in
        omega (arith, some, none))
    at (Some n) e = (n, class-below 0 s.list s.classes r n is.order e, e)

-- ---- groups

module _ {A : Type 0} where
  -- a class of the list has a number, and what it shows is the item there
  numbered : (n : ℕ) (ss : List Stretch) (shows : List A) (c : Class A) → Among c (classes_from n ss shows)
      → (k : ℕ) × (a : A) × (slice_get shows k ≡ Some a) × (c ≡ class_by ss (n + k) a)
  numbered n ss [] c m = absurd m
  numbered n ss (a ∷ shows) c (inl h) = (0, a, refl, h ∙ ap (λ k. class_by ss k a) (omega arith))
  numbered n ss (a ∷ shows) c (inr m) =
      let x = numbered (suc n) ss shows c m in
      (suc x.0, x.1, x.2, x.3 ∙ ap (λ k. class_by ss k x.1) (omega arith))

  among-numbered : (n : ℕ) (ss : List Stretch) (shows : List A) (k : ℕ) (a : A) → slice_get shows k ≡ Some a
      → Among (class_by ss (n + k) a) (classes_from n ss shows)
  among-numbered n ss [] k a e = absurd (let f : None ≡ Some a = e in cc)
  among-numbered n ss (x ∷ shows) zero a e =
      let same : x ≡ a = (let f : Some x ≡ Some a = e in cc) in
      inl (ap (λ k. class_by ss k a) (omega arith) ∙ ap (λ y. class_by ss n y) (sym same))
  among-numbered n ss (x ∷ shows) (suc k) a e =
      inr (subst (λ j. Among (class_by ss j a) (classes_from (suc n) ss shows)) (omega arith) (among-numbered (suc n) ss shows k a e))

  leasts-rise : (low n m : ℕ) (ss : List Stretch) (shows : List A) → AreStretches 0 ss → AreInOrder 0 ss m → n + length shows ≤ m
      → (n < m → low ≤ least_of (runs_with (Some n) 0 ss)) → RiseFrom low (map (λ (c : Class A). c.least) (classes_from n ss shows))
  leasts-rise low n m ss [] a o le above = tt
  leasts-rise low n m ss (x ∷ shows) a o le above = (
    above (omega (arith, le)),
    leasts-rise (suc (least_of (runs_with (Some n) 0 ss))) (suc n) m ss shows a o (omega (arith, le))
        (λ lt. (let less = numbers-rise 0 ss m n (suc n) 0 a o (omega arith) (omega arith) lt in omega (arith, less))),
  )

  -- a class by its number is one of the ranks that show what it does
  class-by-number : (s : Stretched) (shows : List A) (k : ℕ) (a : A) → IsStretched s → length shows ≡ s.classes → slice_get shows k ≡ Some a
      → IsClass (ShowsBy s.list shows) 0 (end_of s.list) (class_by s.list k a)
  class-by-number s shows k a is all e =
      let lt = slice_get_within shows k a e in
      let some = class-comes 0 s.list s.classes k 0 is.order (omega arith) (omega (arith, lt, all)) in
      let apart = runs-apart (Some k) 0 s.list is.stretches in
      let least = least-is (runs_with (Some k) 0 s.list) 0 some.0 some.1 apart some.2 in
      record {
        apart = apart;
        within = λ r h. (let w = runs-within (Some k) 0 s.list r is.stretches h in (w.0, w.1, (k, w.2, e)));
        has_least = least.0;
        is_least = least.1;
        count = refl;
      }

  -- stretches give the groups of the ranks by what their classes show
  pub groups : (s : Stretched) (shows : List A) → IsStretched s → length shows ≡ s.classes → AllDiffer shows
      → AreGroups (ShowsBy s.list shows) 0 (end_of s.list) (classes_by s.list shows)
  groups s shows is all differ = record {
    each = λ c m.
        (let x = numbered 0 s.list shows c m in
        let same : c ≡ class_by s.list x.0 x.1 = x.3 ∙ ap (λ k. class_by s.list k x.1) (omega arith) in
        subst (IsClass (ShowsBy s.list shows) 0 (end_of s.list)) (sym same) (class-by-number s shows x.0 x.1 is all x.2));
    together = λ r a from lt show. (
      class_by s.list show.0 a,
      subst (λ k. Among (class_by s.list k a) (classes_by s.list shows)) (omega arith) (among-numbered 0 s.list shows show.0 a show.2),
      runs-have (Some show.0) 0 s.list r from lt show.1,
    );
    between = λ c d m l h.
        (let x = numbered 0 s.list shows c m in
        let y = numbered 0 s.list shows d l in
        let shown : x.1 ≡ y.1 = sym (ap (λ (z : Class A). z.shows) x.3) ∙ h ∙ ap (λ (z : Class A). z.shows) y.3 in
        let number : x.0 ≡ y.0 = differ x.0 y.0 y.1 (x.2 ∙ ap Some shown) y.2 in
        x.3 ∙ ap (λ k. class_by s.list (0 + k) x.1) number ∙ ap (λ z. class_by s.list (0 + y.0) z) shown ∙ sym y.3);
    rise = leasts-rise 0 0 s.classes s.list shows is.stretches is.order (omega (arith, all)) (λ lt. omega arith);
  }

  -- where no rank is missing, each one shows something
  pub all-shown : (s : Stretched) (shows : List A) → IsStretched s → length shows ≡ s.classes → ranks_in (runs_with None 0 s.list) ≡ 0
      → (r : ℕ) → r < end_of s.list → (a : A) × ShowsBy s.list shows r a
  all-shown s shows is all none r lt =
      let known = none-missing s is none r lt in
      let item = item-at shows known.0 (let less = known.1 in omega (arith, less, all)) in
      (item.0, (known.0, known.2, item.1))
    where
      item-at : (items : List A) (n : ℕ) → n < length items → (a : A) × (slice_get items n ≡ Some a)
      item-at [] n inside = absurd (omega (arith, inside))
      item-at (x ∷ items) zero inside = (x, refl)
      item-at (x ∷ items) (suc n) inside = item-at items n (omega (arith, inside))

  -- ---- tallies

  tallies-from : (k : ℕ) (ss : List Stretch) (shows : List A) (tallies : List Tally) → length tallies ≡ length shows
      → ((n : ℕ) → n < length shows → slice_get tallies n ≡ Some (tally_of (runs_with (Some (k + n)) 0 ss)))
      → map tally_of_class (classes_from k ss shows) ≡ tallies
  tallies-from k ss [] [] all each = refl
  tallies-from k ss [] (t ∷ tallies) all each = absurd (omega (arith, all))
  tallies-from k ss (a ∷ shows) [] all each = absurd (omega (arith, all))
  tallies-from k ss (a ∷ shows) (t ∷ tallies) all each =
      let first : Some t ≡ Some (tally_of (runs_with (Some (k + 0)) 0 ss)) = each 0 (omega arith) in
      let own : t ≡ tally_of (runs_with (Some k) 0 ss) =
      (let e : t ≡ tally_of (runs_with (Some (k + 0)) 0 ss) = cc in e ∙ ap (λ j. tally_of (runs_with (Some j) 0 ss)) (omega arith)) in
      let rest = tallies-from (suc k) ss shows tallies (omega (arith, all))
      (λ n lt. each (suc n) (omega (arith, lt)) ∙ ap (λ j. Some (tally_of (runs_with (Some j) 0 ss))) (omega arith)) in
      λ i. sym own i ∷ rest i

  -- the tallies are those of the classes, in their order
  pub tallies-of-classes : (ss : List Stretch) (shows : List A) (tallies : List Tally) → AreTallies ss (length shows) tallies
      → map tally_of_class (classes_by ss shows) ≡ tallies
  tallies-of-classes ss shows tallies are =
      tallies-from 0 ss shows tallies are.all (λ n lt. are.each n lt ∙ ap (λ j. Some (tally_of (runs_with (Some j) 0 ss))) (omega arith))
