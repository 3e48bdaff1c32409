-- One pass over all stretches: what is left of them behind a place.
use Rattle.std.proofs.Common.{◌≡◌, refl, sym, ap, ◌∙◌, subst, ℕ, ◌+◌, ◌<◌, ◌≤◌, Bool, true, false, cond, Option, Some, None, List, [], ◌∷◌, ◌++◌, length, get_or, set, drop, map}
use Rattle.std.proofs.Common.{zero, suc, ◌==◌, ⊎_elim, arith, add-one, append_assoc, append-nil, drop-cons}
use Rattle.std.proofs.lemmas.List.{map-append}
use Rattle.std.proofs.lemmas.Bool.{eqb-true, eqb-false}
use Rattle.std.proofs.Math.ListN.{drop_of_length-le}
use Rattle.class_stretches.specs.Classes.{Run, ranks_in}
use Rattle.class_stretches.specs.declared.stretch.Stretch.{Stretch}
use Rattle.class_stretches.specs.declared.rank_run.RankRun.{RankRun}
use Rattle.class_stretches.specs.declared.tally.Tally.{Tally}
use Rattle.class_stretches.specs.Stretches.{same_class, AreStretches, MayCome, with_class, AreInOrder, first_of, runs_with, run_of, AreRunsBy}
use Rattle.class_stretches.specs.Growing.{end_at}
use Rattle.class_stretches.specs.Counting.{counted, counted_all, AreBelow, HasOrder, with_run, with_run_of, with_runs}
use Rattle.class_stretches.proofs.Ranks.{with-known, with-next, known-or-next}
use Rattle.class_stretches.proofs.Tallies.{counted-length, counted-below}

abbrev pub stretch_at : List Stretch → ℕ → Stretch
stretch_at ss i = get_or ss i (record { end = 0; class = None })

pub next-left : (ss : List Stretch) (i : ℕ) → i < length ss → drop i ss ≡ stretch_at ss i ∷ drop (i + 1) ss
next-left ss i lt = rw add-one (drop-cons ss i (record { end = 0; class = None }) lt)

-- ---- missing ranks

pub ranks-next : (c : Option ℕ) (low : ℕ) (s : Stretch) (ss : List Stretch)
    → ranks_in (runs_with c low (s ∷ ss)) ≡ ranks_in (runs_with c low (s ∷ [])) + ranks_in (runs_with c s.end ss)
ranks-next c low s ss = at (same_class c s.class)
  where
    at : (b : Bool) → ranks_in (cond b (record { first = low; end = s.end } ∷ runs_with c s.end ss) (runs_with c s.end ss))
        ≡ ranks_in (cond b (record { first = low; end = s.end } ∷ []) []) + ranks_in (runs_with c s.end ss)
    at true = omega arith
    at false = omega arith

-- so many ranks of the stretches before a place are missing
pub record AreMissing (ss : List Stretch) (i low missing : ℕ) : Type 0 where
  pub left : missing + ranks_in (runs_with None low (drop i ss)) ≡ ranks_in (runs_with None 0 ss)
  pub stretches : AreStretches low (drop i ss)
  pub below : missing ≤ low

pub missing-start : (ss : List Stretch) → AreStretches 0 ss → AreMissing ss 0 0 0
missing-start ss a = record { left = omega arith; stretches = a; below = omega arith }

pub next-some : (ss : List Stretch) (i low : ℕ) → i < length ss → AreStretches low (drop i ss) → low < end_at ss i
next-some ss i low lt a = (subst (AreStretches low) (next-left ss i lt) a).0

pub next-stretches : (ss : List Stretch) (i low : ℕ) → i < length ss → AreStretches low (drop i ss) → AreStretches (end_at ss i) (drop (i + 1) ss)
next-stretches ss i low lt a = (subst (AreStretches low) (next-left ss i lt) a).2

pub missing-next : (ss : List Stretch) (i low missing m : ℕ) → i < length ss → AreMissing ss i low missing
    → m ≡ ranks_in (runs_with None low (stretch_at ss i ∷ [])) → low + m ≤ end_at ss i → AreMissing ss (i + 1) (end_at ss i) (missing + m)
missing-next ss i low missing m lt so is inside =
    let next = ranks-next None low (stretch_at ss i) (drop (i + 1) ss) in
    let here = ap (λ rest. ranks_in (runs_with None low rest)) (next-left ss i lt) in
    let left = so.left in
    let below = so.below in
    record {
      left = omega (arith, next, here, left, is);
      stretches = next-stretches ss i low lt so.stretches;
      below = omega (arith, below, inside);
    }

pub missing-all : (ss : List Stretch) (i low missing : ℕ) → length ss ≤ i → AreMissing ss i low missing → missing ≡ ranks_in (runs_with None 0 ss)
missing-all ss i low missing le so =
    let here = ap (λ rest. ranks_in (runs_with None low rest)) (drop_of_length-le ss le) in
    let left = so.left in
    omega (arith, here, left)

-- ---- the first missing rank

pub first-here : (ss : List Stretch) (i low : ℕ) → i < length ss → same_class None (stretch_at ss i).class ≡ true
    → first_of (runs_with None low (drop i ss)) ≡ Some low
first-here ss i low lt is =
    ap (λ rest. first_of (runs_with None low rest)) (next-left ss i lt)
    ∙ ap (λ b. first_of (cond b (record { first = low; end = end_at ss i } ∷ runs_with None (end_at ss i) (drop (i + 1) ss)) (runs_with None (end_at ss i) (drop (i + 1) ss)))) is

pub first-next : (ss : List Stretch) (i low : ℕ) → i < length ss → same_class None (stretch_at ss i).class ≡ false
    → first_of (runs_with None low (drop i ss)) ≡ first_of (runs_with None (end_at ss i) (drop (i + 1) ss))
first-next ss i low lt is =
    ap (λ rest. first_of (runs_with None low rest)) (next-left ss i lt)
    ∙ ap (λ b. first_of (cond b (record { first = low; end = end_at ss i } ∷ runs_with None (end_at ss i) (drop (i + 1) ss)) (runs_with None (end_at ss i) (drop (i + 1) ss)))) is

pub first-none : (ss : List Stretch) (i low : ℕ) → length ss ≤ i → first_of (runs_with None low (drop i ss)) ≡ None
first-none ss i low le = ap (λ rest. first_of (runs_with None low rest)) (drop_of_length-le ss le)

-- ---- runs

pub runs-next : (c : Option ℕ) (low : ℕ) (s : Stretch) (ss : List Stretch)
    → runs_with c low (s ∷ ss) ≡ runs_with c low (s ∷ []) ++ runs_with c s.end ss
runs-next c low s ss = at (same_class c s.class)
  where
    at : (b : Bool) → cond b (record { first = low; end = s.end } ∷ runs_with c s.end ss) (runs_with c s.end ss)
        ≡ cond b (record { first = low; end = s.end } ∷ []) [] ++ runs_with c s.end ss
    at true = refl
    at false = refl

-- the runs of the stretches before a place
abbrev pub AreRuns : List Stretch → Option ℕ → ℕ → ℕ → List RankRun → Type 0
AreRuns ss c i low runs = map run_of runs ++ runs_with c low (drop i ss) ≡ runs_with c 0 ss

pub more-runs : (ss : List Stretch) (c : Option ℕ) (i low : ℕ) (runs more : List RankRun) → i < length ss → AreRuns ss c i low runs
    → map run_of more ≡ map run_of runs ++ runs_with c low (stretch_at ss i ∷ []) → AreRuns ss c (i + 1) (end_at ss i) more
more-runs ss c i low runs more lt so is =
    ap (λ front. front ++ runs_with c (end_at ss i) (drop (i + 1) ss)) is
    ∙ append_assoc (map run_of runs) (runs_with c low (stretch_at ss i ∷ [])) (runs_with c (end_at ss i) (drop (i + 1) ss))
    ∙ ap (λ rest. map run_of runs ++ rest)
    (sym (runs-next c low (stretch_at ss i) (drop (i + 1) ss)) ∙ ap (λ rest. runs_with c low rest) (sym (next-left ss i lt)))
    ∙ so

pub all-runs : (ss : List Stretch) (c : Option ℕ) (i low : ℕ) (runs : List RankRun) → length ss ≤ i → AreRuns ss c i low runs → map run_of runs ≡ runs_with c 0 ss
all-runs ss c i low runs le so =
    sym (append-nil (map run_of runs)) ∙ ap (λ rest. map run_of runs ++ runs_with c low rest) (sym (drop_of_length-le ss le)) ∙ so

-- ---- tallies

-- the stretches before a place are counted
pub record AreCounted (ss : List Stretch) (i low : ℕ) (tallies : List Tally) : Type 0 where
  pub left : counted_all tallies low (drop i ss) ≡ counted_all [] 0 ss
  pub stretches : AreStretches low (drop i ss)
  pub classes : ℕ
  pub order : AreInOrder (length tallies) (drop i ss) classes
  pub below : AreBelow low tallies

pub counted-start : (ss : List Stretch) → AreStretches 0 ss → HasOrder ss → AreCounted ss 0 0 []
counted-start ss a o = record { left = refl; stretches = a; classes = o.0; order = o.1; below = tt }

pub next-comes : (ss : List Stretch) (i low : ℕ) (tallies : List Tally) → i < length ss → AreCounted ss i low tallies
    → MayCome (length tallies) (stretch_at ss i).class
next-comes ss i low tallies lt so = (subst (λ rest. AreInOrder (length tallies) rest so.classes) (next-left ss i lt) so.order).0

pub counted-next : (ss : List Stretch) (i low : ℕ) (tallies more : List Tally) → i < length ss → AreCounted ss i low tallies
    → more ≡ counted tallies low (stretch_at ss i) → AreCounted ss (i + 1) (end_at ss i) more
counted-next ss i low tallies more lt so is =
    let s = stretch_at ss i in
    let o = subst (λ rest. AreInOrder (length tallies) rest so.classes) (next-left ss i lt) so.order in
    let first = next-some ss i low lt so.stretches in
    let here : AreCounted ss (i + 1) (end_at ss i) (counted tallies low s) = record {
      left = ap (λ rest. counted_all tallies low rest) (sym (next-left ss i lt)) ∙ so.left;
      stretches = next-stretches ss i low lt so.stretches;
      classes = so.classes;
      order = subst (λ n. AreInOrder n (drop (i + 1) ss) so.classes) (sym (counted-length tallies low s o.0)) o.1;
      below = counted-below tallies low s first so.below;
    } in
    subst (AreCounted ss (i + 1) (end_at ss i)) (sym is) here

pub all-counted : (ss : List Stretch) (i low : ℕ) (tallies : List Tally) → length ss ≤ i → AreCounted ss i low tallies → tallies ≡ counted_all [] 0 ss
all-counted ss i low tallies le so = ap (λ rest. counted_all tallies low rest) (sym (drop_of_length-le ss le)) ∙ so.left

-- ---- runs of all classes

put-same : (all : List (List RankRun)) (n : ℕ) (run : RankRun) → n ≤ length all → get_or (with_run all n run) n [] ≡ get_or all n [] ++ run ∷ []
put-same [] zero run le = refl
put-same [] (suc n) run le = absurd (omega (arith, le))
put-same (runs ∷ all) zero run le = refl
put-same (runs ∷ all) (suc n) run le = put-same all n run (omega (arith, le))

put-other : (all : List (List RankRun)) (k n : ℕ) (run : RankRun) → k ≤ length all → (n ≡ k → ⊥) → get_or (with_run all k run) n [] ≡ get_or all n []
put-other [] zero zero run le ne = absurd (ne refl)
put-other [] zero (suc n) run le ne = refl
put-other [] (suc k) n run le ne = absurd (omega (arith, le))
put-other (runs ∷ all) zero zero run le ne = absurd (ne refl)
put-other (runs ∷ all) zero (suc n) run le ne = refl
put-other (runs ∷ all) (suc k) zero run le ne = refl
put-other (runs ∷ all) (suc k) (suc n) run le ne = put-other all k n run (omega (arith, le)) (λ h. ne (ap suc h))

put-known : (all : List (List RankRun)) (n : ℕ) (run : RankRun) → n < length all → length (with_run all n run) ≡ length all
put-known [] n run lt = absurd (omega (arith, lt))
put-known (runs ∷ all) zero run lt = refl
put-known (runs ∷ all) (suc n) run lt = ap suc (put-known all n run (omega (arith, lt)))

put-next : (all : List (List RankRun)) (n : ℕ) (run : RankRun) → n ≡ length all → length (with_run all n run) ≡ length all + 1
put-next [] n run is = refl
put-next (runs ∷ all) zero run is = absurd (omega (arith, is))
put-next (runs ∷ all) (suc n) run is = let rest = put-next all n run (omega (arith, is)) in omega (arith, rest)

put-length : (all : List (List RankRun)) (c : Option ℕ) (run : RankRun) → MayCome (length all) c
    → length (with_run_of all c run) ≡ with_class (length all) c
put-length all None run may = refl
put-length all (Some n) run may =
    ⊎_elim (λ h. put-known all n run h ∙ sym (with-known (length all) n h))
    (λ h. put-next all n run h ∙ sym (ap (λ k. with_class (length all) (Some k)) h ∙ with-next (length all))) (known-or-next (length all) n may)

-- the runs of class number n, and those that are left of it
abbrev runs_at : List (List RankRun) → ℕ → List Run
runs_at all n = map run_of (get_or all n [])

put-runs : (all : List (List RankRun)) (n low : ℕ) (s : Stretch) (ss : List Stretch) → MayCome (length all) s.class
    → runs_at (with_runs all low s) n ++ runs_with (Some n) s.end ss ≡ runs_at all n ++ runs_with (Some n) low (s ∷ ss)
put-runs all n low s ss may = at s.class may
  where
    at : (c : Option ℕ) → MayCome (length all) c
        → map run_of (get_or (with_run_of all c (record { first = low; end = s.end })) n []) ++ runs_with (Some n) s.end ss
        ≡ map run_of (get_or all n []) ++ cond (same_class (Some n) c) (record { first = low; end = s.end } ∷ runs_with (Some n) s.end ss) (runs_with (Some n) s.end ss)
    at None may = refl
    at (Some k) may = by (n == k) refl
      where
        by : (b : Bool) → (n == k) ≡ b
            → map run_of (get_or (with_run all k (record { first = low; end = s.end })) n []) ++ runs_with (Some n) s.end ss
            ≡ map run_of (get_or all n []) ++ cond b (record { first = low; end = s.end } ∷ runs_with (Some n) s.end ss) (runs_with (Some n) s.end ss)
        by true is =
            let same : n ≡ k = eqb-true n k is in
            let here = subst (λ j. get_or (with_run all j (record { first = low; end = s.end })) n [] ≡ get_or all n [] ++ record { first = low; end = s.end } ∷ [])
            same (put-same all n (record { first = low; end = s.end }) (omega (arith, same, may))) in
            ap (λ (runs : List RankRun). map run_of runs ++ runs_with (Some n) s.end ss) here
            ∙ ap (λ runs. runs ++ runs_with (Some n) s.end ss) (map-append run_of (get_or all n []) (record { first = low; end = s.end } ∷ []))
            ∙ append_assoc (map run_of (get_or all n [])) (record { first = low; end = s.end } ∷ []) (runs_with (Some n) s.end ss)
        by false is =
            ap (λ (runs : List RankRun). map run_of runs ++ runs_with (Some n) s.end ss)
            (put-other all k n (record { first = low; end = s.end }) may (eqb-false n k is))

-- the runs of the stretches before a place are put to their classes
pub record ArePut (ss : List Stretch) (classes i low : ℕ) (all : List (List RankRun)) : Type 0 where
  pub left : (n : ℕ) → runs_at all n ++ runs_with (Some n) low (drop i ss) ≡ runs_with (Some n) 0 ss
  pub order : AreInOrder (length all) (drop i ss) classes

pub put-start : (ss : List Stretch) (classes : ℕ) → AreInOrder 0 ss classes → ArePut ss classes 0 0 []
put-start ss classes o = record { left = λ n. refl; order = o }

pub put-comes : (ss : List Stretch) (classes i low : ℕ) (all : List (List RankRun)) → i < length ss → ArePut ss classes i low all
    → MayCome (length all) (stretch_at ss i).class
put-comes ss classes i low all lt so = (subst (λ rest. AreInOrder (length all) rest classes) (next-left ss i lt) so.order).0

pub put-more : (ss : List Stretch) (classes i low : ℕ) (all more : List (List RankRun)) → i < length ss → ArePut ss classes i low all
    → more ≡ with_runs all low (stretch_at ss i) → ArePut ss classes (i + 1) (end_at ss i) more
put-more ss classes i low all more lt so is =
    let s = stretch_at ss i in
    let o = subst (λ rest. AreInOrder (length all) rest classes) (next-left ss i lt) so.order in
    let here : ArePut ss classes (i + 1) (end_at ss i) (with_runs all low s) = record {
      left = λ n. (put-runs all n low s (drop (i + 1) ss) o.0
          ∙ ap (λ rest. runs_at all n ++ runs_with (Some n) low rest) (sym (next-left ss i lt)) ∙ so.left n);
      order = subst (λ n. AreInOrder n (drop (i + 1) ss) classes) (sym (put-length all s.class (record { first = low; end = s.end }) o.0)) o.1;
    } in
    subst (ArePut ss classes (i + 1) (end_at ss i)) (sym is) here

pub all-put : (ss : List Stretch) (classes i low : ℕ) (all : List (List RankRun)) → length ss ≤ i → ArePut ss classes i low all → AreRunsBy ss classes all
all-put ss classes i low all le so = record {
  all = subst (λ rest. AreInOrder (length all) rest classes) (drop_of_length-le ss le) so.order;
  each = λ n lt. (sym (append-nil (runs_at all n)) ∙ ap (λ rest. runs_at all n ++ runs_with (Some n) low rest) (sym (drop_of_length-le ss le)) ∙ so.left n);
}

-- ---- a run that is put

pub run-set : (all : List (List RankRun)) (n : ℕ) (run : RankRun) (runs : List RankRun) → n < length all → runs ≡ get_or all n runs
    → set all n (runs ++ run ∷ []) ≡ with_run all n run
run-set [] n run runs lt is = absurd (omega (arith, lt))
run-set (x ∷ all) zero run runs lt is = ap (λ y. (y ++ run ∷ []) ∷ all) is
run-set (x ∷ all) (suc n) run runs lt is = ap (λ rest. x ∷ rest) (run-set all n run runs (omega (arith, lt)) is)

pub run-pushed : (all : List (List RankRun)) (n : ℕ) (run : RankRun) → n ≡ length all → all ++ (run ∷ []) ∷ [] ≡ with_run all n run
run-pushed [] n run is = refl
run-pushed (x ∷ all) zero run is = absurd (omega (arith, is))
run-pushed (x ∷ all) (suc n) run is = ap (λ rest. x ∷ rest) (run-pushed all n run (omega (arith, is)))
