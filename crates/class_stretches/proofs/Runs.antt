-- Runs that stand apart and have the same ranks are the same.
use Rattle.std.proofs.Common.{◌≡◌, refl, sym, ◌∙◌, subst, ℕ, suc, ◌<◌, ◌≤◌, Bool, true, false, nat_le, nat_lt, List, [], ◌∷◌, ◌⊎◌}
use Rattle.std.proofs.Common.{⊎_elim, arith}
use Rattle.std.proofs.lemmas.Bool.{leb-true, ltb-true, le-leb, lt-ltb, and_parts, and_from, or_cases, or_left, or_right}
use Rattle.class_stretches.specs.Classes.{Run, in_run, in_runs, AreApart}

pub bool-same : (x y : Bool) → (x ≡ true → y ≡ true) → (y ≡ true → x ≡ true) → x ≡ y
bool-same true y f g = sym (f refl)
bool-same false true f g = g refl
bool-same false false f g = refl

pub run-parts : (run : Run) (r : ℕ) → in_run run r ≡ true → (run.first ≤ r) × (r < run.end)
run-parts run r e =
    let p = and_parts (nat_le run.first r) (nat_lt r run.end) e in
    (leb-true run.first r p.0, ltb-true r run.end p.1)

pub run-from : (run : Run) (r : ℕ) → run.first ≤ r → r < run.end → in_run run r ≡ true
run-from run r a b = and_from (nat_le run.first r) (nat_lt r run.end) (le-leb run.first r a) (lt-ltb r run.end b)

pub from-low : (low : ℕ) (runs : List Run) (r : ℕ) → AreApart low runs → in_runs runs r ≡ true → low ≤ r
from-low low [] r a e = cc
from-low low (run ∷ runs) r a e =
    ⊎_elim (λ h. let p = run-parts run r h in let q = a.0 in omega (arith, p.0, q))
    (λ h. let p = from-low (suc run.end) runs r a.2 h in let q = a.0 in let s = a.1 in omega (arith, p, q, s))
    (or_cases (in_run run r) (in_runs runs r) e)

-- a rank up to the end of the first run is in it or in none
at-first : (low : ℕ) (run : Run) (runs : List Run) (r : ℕ) → AreApart low (run ∷ runs) → in_runs (run ∷ runs) r ≡ true → r ≤ run.end → in_run run r ≡ true
at-first low run runs r a e le =
    ⊎_elim (λ h. h) (λ h. absurd (let p = from-low (suc run.end) runs r a.2 h in omega (arith, p, le)))
    (or_cases (in_run run r) (in_runs runs r) e)

first-in : (run : Run) (runs : List Run) (r : ℕ) → run.first ≤ r → r < run.end → in_runs (run ∷ runs) r ≡ true
first-in run runs r a b = or_left (in_run run r) (in_runs runs r) (run-from run r a b)

low-first : (low : ℕ) (run : Run) (runs : List Run) → AreApart low (run ∷ runs) → AreApart run.first (run ∷ runs)
low-first low run runs a = (omega arith, a.1, a.2)

-- the first run of the one begins no later than that of the other
begins : (low : ℕ) (x y : Run) (xs ys : List Run) → AreApart low (x ∷ xs) → AreApart low (y ∷ ys)
    → ((r : ℕ) → in_runs (x ∷ xs) r ≡ in_runs (y ∷ ys) r) → y.first ≤ x.first
begins low x y xs ys a b same =
    from-low y.first (y ∷ ys) x.first (low-first low y ys b) (sym (same x.first) ∙ first-in x xs x.first (omega arith) a.1)

-- and ends no earlier
ends : (low : ℕ) (x y : Run) (xs ys : List Run) → AreApart low (x ∷ xs) → AreApart low (y ∷ ys)
    → ((r : ℕ) → in_runs (x ∷ xs) r ≡ in_runs (y ∷ ys) r) → x.first ≡ y.first → y.end ≤ x.end
ends low x y xs ys a b same e =
    let cases : (y.end ≤ x.end) ⊎ (x.end < y.end) = grind arith in
    ⊎_elim (λ h. h) (λ h. absurd (
    let lt : x.first < x.end = a.1 in
    let inside = first-in y ys x.end (omega (arith, lt, e)) h in
    let own = at-first low x xs x.end a (same x.end ∙ inside) (omega arith) in
    let p = run-parts x x.end own in
    let q = p.1 in
    omega (arith, q))) cases

pub runs-same : (low : ℕ) (xs ys : List Run) → AreApart low xs → AreApart low ys → ((r : ℕ) → in_runs xs r ≡ in_runs ys r) → xs ≡ ys
runs-same low [] [] a b same = refl
runs-same low [] (y ∷ ys) a b same = absurd (let e : false ≡ true = same y.first ∙ first-in y ys y.first (omega arith) b.1 in cc)
runs-same low (x ∷ xs) [] a b same = absurd (let e : false ≡ true = sym (same x.first) ∙ first-in x xs x.first (omega arith) a.1 in cc)
runs-same low (x ∷ xs) (y ∷ ys) a b same =
    let back : (r : ℕ) → in_runs (y ∷ ys) r ≡ in_runs (x ∷ xs) r = λ r. sym (same r) in
    let f : x.first ≡ y.first = (let p = begins low x y xs ys a b same in let q = begins low y x ys xs b a back in omega (arith, p, q)) in
    let e : x.end ≡ y.end = (let p = ends low x y xs ys a b same f in let q = ends low y x ys xs b a back (sym f) in omega (arith, p, q)) in
    let run : x ≡ y = λ i. record { first = f i; end = e i } in
    let rest : xs ≡ ys = runs-same (suc x.end) xs ys a.2 (subst (λ n. AreApart (suc n) ys) (sym e) b.2)
    (λ r. bool-same (in_runs xs r) (in_runs ys r) (there x xs ys (λ s h. subst (λ z. in_runs (z ∷ ys) s ≡ true) (sym run) (sym (same s) ∙ h)) a.2 r)
    (there x ys xs (λ s h. same s ∙ subst (λ z. in_runs (z ∷ ys) s ≡ true) run h) (subst (λ n. AreApart (suc n) ys) (sym e) b.2) r)) in
    λ i. run i ∷ rest i
  where
    there : (z : Run) (us vs : List Run) → ((r : ℕ) → in_runs (z ∷ us) r ≡ true → in_runs (z ∷ vs) r ≡ true) → AreApart (suc z.end) us
        → (r : ℕ) → in_runs us r ≡ true → in_runs vs r ≡ true
    there z us vs f apart r h =
        ⊎_elim (λ g. absurd (let p = from-low (suc z.end) us r apart h in let q = run-parts z r g in let s = q.1 in omega (arith, p, s))) (λ g. g)
        (or_cases (in_run z r) (in_runs vs r) (f r (or_right (in_run z r) (in_runs us r) h)))
