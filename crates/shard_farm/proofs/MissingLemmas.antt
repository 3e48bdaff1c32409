-- The numbers that workers have marked.
use Rattle.std.proofs.Common.{◌≡◌, ℕ, zero, suc, ◌+◌, ◌<◌, ◌≤◌, Bool, true, false, true≢false, cond, List, [], ◌∷◌, ◌++◌, refl, sym, ap, ◌∙◌, subst, ⊎_elim}
use Rattle.std.proofs.Common.{arith, eq-eqb}
use Rattle.std.proofs.Common.{All}
use Rattle.std.specs.Prelude.{◌==◌, filter}
use Rattle.std.specs.List.{range_with_len}
use Rattle.std.specs.List.Sorted.{IsStrictlyIncreasing}
use Rattle.std.proofs.lemmas.Bool.{or_cases, or_left, or_right, eqb-true}
use Rattle.std.proofs.lemmas.List.{append-nil}
use Rattle.std.proofs.lemmas.List.FromFn.{length-range_with_len, get_or-range_with_len}
use Rattle.std.proofs.lemmas.List.Kept.{IsStrictlyIncreasing-filter}
use Rattle.std.proofs.lemmas.List.Elements.{All-filter, filter-append}
use mathlib.Core.Option.{some, some-ne-none, some-injective}
use mathlib.Core.Logic.{dite}
use native.Mathlib.Decide.{ℕ_discrete}
use lib.ListN.{get_elem?}
use Rattle.shard_board.specs.Shown.{has}
use Rattle.shard_farm.specs.declared.worker.Worker.{Worker}
use Rattle.shard_farm.specs.Working.{is_marked, is_missed_by, numbers_missed}

-- one of the workers has a mark for it
abbrev pub Marked : List Worker → ℕ → Type 0
Marked ws n = (k : ℕ) × ((w : Worker) × ((get_elem? ws k ≡ some w) × (is_marked w.missed.items n ≡ true)))

pub missed_by : (ws : List Worker) (n : ℕ) → is_missed_by ws n ≡ true → Marked ws n
missed_by [] n h = absurd (true≢false (sym h))
missed_by (w ∷ ws) n h = ⊎_elim
    (λ is. (0, (w, (refl, is))))
    (λ rest. let t = missed_by ws n rest in (suc t.0, t.1))
    (or_cases (is_marked w.missed.items n) (is_missed_by ws n) h)

pub missed_at : (ws : List Worker) (n k : ℕ) (w : Worker) → get_elem? ws k ≡ some w → is_marked w.missed.items n ≡ true → is_missed_by ws n ≡ true
missed_at [] n k w at is = absurd (some-ne-none w (sym at))
missed_at (v ∷ ws) n zero w at is =
    or_left (is_marked v.missed.items n) (is_missed_by ws n) (subst (λ (x : Worker). is_marked x.missed.items n ≡ true) (sym (some-injective v w at)) is)
missed_at (v ∷ ws) n (suc k) w at is = or_right (is_marked v.missed.items n) (is_missed_by ws n) (missed_at ws n k w at is)

-- what is filtered out of numbers passes the test
passes : (p : ℕ → Bool) (n : ℕ) (xs : List ℕ) → has n (filter p xs) ≡ true → p n ≡ true
passes p n [] h = absurd (true≢false (sym h))
passes p n (x ∷ xs) h = passes_one (p x) refl (λ t. passes p n xs t) h
  where
    passes_one : (b : Bool) → p x ≡ b → (has n (filter p xs) ≡ true → p n ≡ true) → has n (cond b (x ∷ filter p xs) (filter p xs)) ≡ true → p n ≡ true
    passes_one true is rest h = ⊎_elim (λ e. ap p (sym (eqb-true x n e)) ∙ is) (λ t. rest t) (or_cases (x == n) (has n (filter p xs)) h)
    passes_one false is rest h = rest h

keeps : (p : ℕ → Bool) (n x : ℕ) (xs : List ℕ) → has n (filter p xs) ≡ true → has n (filter p (x ∷ xs)) ≡ true
keeps p n x xs h = elim (p x) as (λ (b : Bool). has n (cond b (x ∷ filter p xs) (filter p xs)) ≡ true)
    [ true ↦ or_right (x == n) (has n (filter p xs)) h | false ↦ h ]

takes : (p : ℕ → Bool) (n x : ℕ) (xs : List ℕ) → x ≡ n → p n ≡ true → has n (filter p (x ∷ xs)) ≡ true
takes p n x xs same is =
    subst (λ (b : Bool). has n (cond b (x ∷ filter p xs) (filter p xs)) ≡ true) (sym (ap p same ∙ is))
    (or_left (x == n) (has n (filter p xs)) (eq-eqb x n same))

-- a number in the range that passes is filtered out
kept : (p : ℕ → Bool) (n a c : ℕ) → a ≤ n → n < a + c → p n ≡ true → has n (filter p (range_with_len a c)) ≡ true
kept p n a zero from to is = absurd (omega arith)
kept p n a (suc c) from to is = dite (ℕ_discrete a n)
    (λ same. takes p n a (range_with_len (a + 1) c) same is)
    (λ other. keeps p n a (range_with_len (a + 1) c) (kept p n (a + 1) c (omega (arith, other)) (omega arith) is))

pub missing_has : (ws : List Worker) (n count : ℕ) → n < count → is_missed_by ws n ≡ true → has n (numbers_missed ws count) ≡ true
missing_has ws n count below is = kept (is_missed_by ws) n 0 count (omega arith) (omega arith) is

pub missing_of : (ws : List Worker) (n count : ℕ) → has n (numbers_missed ws count) ≡ true → is_missed_by ws n ≡ true
missing_of ws n count h = passes (is_missed_by ws) n (range_with_len 0 count) h

range_rises : (a c : ℕ) → IsStrictlyIncreasing (range_with_len a c)
range_rises a c k within =
    let l = length-range_with_len a c in
    let x = get_or-range_with_len a c k 0 (omega arith) in
    let y = get_or-range_with_len a c (k + 1) 0 (omega arith) in omega arith

pub missing_rises : (ws : List Worker) (count : ℕ) → IsStrictlyIncreasing (numbers_missed ws count)
missing_rises ws count = IsStrictlyIncreasing-filter (is_missed_by ws) (range_with_len 0 count) (range_rises 0 count)

range_below : (count : ℕ) → All (λ n. n < count) (range_with_len 0 count)
range_below count k d within =
    let l = length-range_with_len 0 count in
    let x = get_or-range_with_len 0 count k d (omega arith) in omega arith

pub missing_below : (ws : List Worker) (count : ℕ) → All (λ n. n < count) (numbers_missed ws count)
missing_below ws count = All-filter (is_missed_by ws) (λ n. n < count) (range_with_len 0 count) (range_below count)

range_more : (a c : ℕ) → range_with_len a (suc c) ≡ range_with_len a c ++ (a + c) ∷ []
range_more a zero = ap (λ (n : ℕ). n ∷ []) (omega arith)
range_more a (suc c) =
    let same : a + 1 + c ≡ a + suc c = omega arith in
    ap (λ (l : List ℕ). a ∷ l) (range_more (a + 1) c) ∙ ap (λ (n : ℕ). (a ∷ range_with_len (a + 1) c) ++ n ∷ []) same

range_next : (c : ℕ) → range_with_len 0 (c + 1) ≡ range_with_len 0 c ++ c ∷ []
range_next c =
    let one : c + 1 ≡ suc c = omega arith in
    let last : 0 + c ≡ c = omega arith in
    ap (range_with_len 0) one ∙ (range_more 0 c ∙ ap (λ (n : ℕ). range_with_len 0 c ++ n ∷ []) last)

by_last : (ws : List Worker) (c : ℕ) (b : Bool) → is_missed_by ws c ≡ b → numbers_missed ws (c + 1) ≡ numbers_missed ws c ++ cond b (c ∷ []) []
by_last ws c b is =
    ap (filter (is_missed_by ws)) (range_next c) ∙ (filter-append (is_missed_by ws) (range_with_len 0 c) (c ∷ [])
    ∙ ap (λ (t : Bool). numbers_missed ws c ++ cond t (c ∷ []) []) is)

-- the next number, where it is marked
pub missing_more : (ws : List Worker) (c : ℕ) → is_missed_by ws c ≡ true → numbers_missed ws (c + 1) ≡ numbers_missed ws c ++ c ∷ []
missing_more ws c is = by_last ws c true is

-- and where it is not
pub missing_same : (ws : List Worker) (c : ℕ) → is_missed_by ws c ≡ false → numbers_missed ws (c + 1) ≡ numbers_missed ws c
missing_same ws c is = by_last ws c false is ∙ append-nil (numbers_missed ws c)
