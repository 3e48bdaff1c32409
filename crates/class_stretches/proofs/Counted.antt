-- How many ranks runs have.
use Rattle.std.proofs.Common.{◌≡◌, refl, sym, ap, ◌∙◌, subst, ℕ, zero, suc, ◌+◌, ◌-◌, ◌<◌, ◌≤◌, true, List, [], ◌∷◌, ◌++◌, length, ◌⊎◌, inl, inr}
use Rattle.std.proofs.Common.{⊎_elim, arith}
use Rattle.std.proofs.lemmas.Bool.{or_cases, or_left, or_right}
use Rattle.lock_queues.specs.Reasons.{Among}
use Rattle.lock_queues.proofs.Edges.{among-left, among-right, among-parts}
use Rattle.class_stretches.specs.Classes.{Run, in_run, in_runs, ranks_in, AreApart, Class, IsClass}
use Rattle.order_classes.specs.Numbers.{IsNumberOf, RiseFrom}
use Rattle.class_stretches.proofs.Runs.{run-parts, run-from}

abbrev span : ℕ → ℕ → List ℕ
span first zero = []
span first (suc n) = first ∷ span (suc first) n

abbrev listed : List Run → List ℕ
listed [] = []
listed (run ∷ runs) = span run.first (run.end - run.first) ++ listed runs

span-in : (first n r : ℕ) → Among r (span first n) → (first ≤ r) × (r < first + n)
span-in first zero r m = absurd m
span-in first (suc n) r (inl e) = (omega (arith, e), omega (arith, e))
span-in first (suc n) r (inr m) = let p = span-in (suc first) n r m in let a = p.0 in let b = p.1 in (omega (arith, a), omega (arith, b))

in-span : (first n r : ℕ) → first ≤ r → r < first + n → Among r (span first n)
in-span first zero r a b = absurd (omega (arith, a, b))
in-span first (suc n) r a b =
    let cases : (r ≡ first) ⊎ (suc first ≤ r) = grind arith in
    ⊎_elim (λ e. inl e) (λ h. inr (in-span (suc first) n r h (omega (arith, b)))) cases

rise-lower : (low k : ℕ) (rs : List ℕ) → low ≤ k → RiseFrom k rs → RiseFrom low rs
rise-lower low k [] le a = tt
rise-lower low k (r ∷ rs) le a = (let b = a.0 in omega (arith, b, le), a.1)

span-rise : (low first n : ℕ) (rs : List ℕ) → low ≤ first → RiseFrom (first + n) rs → RiseFrom low (span first n ++ rs)
span-rise low first zero rs le a = rise-lower low (first + 0) rs (omega (arith, le)) a
span-rise low first (suc n) rs le a =
    let size : first + suc n ≡ suc first + n = omega arith in
    (le, span-rise (suc first) (suc first) n rs (omega arith) (subst (λ k. RiseFrom k rs) size a))

span-length : (first n : ℕ) (rs : List ℕ) → length (span first n ++ rs) ≡ n + length rs
span-length first zero rs = (let goal : length rs ≡ 0 + length rs = omega arith in goal)
span-length first (suc n) rs = let rec = span-length (suc first) n rs in omega (arith, rec)

listed-rise : (low : ℕ) (runs : List Run) → AreApart low runs → RiseFrom low (listed runs)
listed-rise low [] a = tt
listed-rise low (run ∷ runs) a =
    let lt : run.first < run.end = a.1 in
    span-rise low run.first (run.end - run.first) (listed runs) a.0
    (rise-lower (run.first + (run.end - run.first)) (suc run.end) (listed runs) (omega (arith, lt)) (listed-rise (suc run.end) runs a.2))

listed-length : (runs : List Run) → length (listed runs) ≡ ranks_in runs
listed-length [] = refl
listed-length (run ∷ runs) = span-length run.first (run.end - run.first) (listed runs) ∙ ap (λ k. (run.end - run.first) + k) (listed-length runs)

listed-in : (low : ℕ) (runs : List Run) (r : ℕ) → AreApart low runs → Among r (listed runs) → in_runs runs r ≡ true
listed-in low [] r a m = absurd m
listed-in low (run ∷ runs) r a m =
    ⊎_elim
    (λ h. (let p = span-in run.first (run.end - run.first) r h in
    let lt : run.first < run.end = a.1 in
    let p0 = p.0 in
    let p1 = p.1 in
    or_left (in_run run r) (in_runs runs r) (run-from run r p0 (omega (arith, p1, lt)))))
    (λ h. or_right (in_run run r) (in_runs runs r) (listed-in (suc run.end) runs r a.2 h))
    (among-parts r (span run.first (run.end - run.first)) (listed runs) m)

in-listed : (runs : List Run) (r : ℕ) → in_runs runs r ≡ true → Among r (listed runs)
in-listed [] r e = cc
in-listed (run ∷ runs) r e =
    ⊎_elim
    (λ h. (let p = run-parts run r h in
    let p0 = p.0 in
    let p1 = p.1 in
    among-left r (span run.first (run.end - run.first)) (listed runs)
    (in-span run.first (run.end - run.first) r p0 (omega (arith, p0, p1)))))
    (λ h. among-right r (span run.first (run.end - run.first)) (listed runs) (in-listed runs r h)) (or_cases (in_run run r) (in_runs runs r) e)

pub class-number : {A : Type 0} (show : ℕ → A → Type 0) (first end : ℕ) (c : Class A) → IsClass show first end c → IsNumberOf (λ r. in_runs c.runs r ≡ true) c.count
class-number show first end c is = record {
  ranks = listed c.runs;
  rise = listed-rise 0 c.runs is.apart;
  has = λ r. (listed-in 0 c.runs r is.apart, in-listed c.runs r);
  count = listed-length c.runs ∙ sym is.count;
}
