-- The orders of sessions are all lists that have each session once.
use Rattle.std.proofs.Common.{◌≡◌, ◌≢◌, refl, sym, ap, ◌∙◌, subst, ◌↔◌, ℕ, zero, suc, ◌<◌, ◌≤◌, cond, ◌==◌, List, [], ◌∷◌, length}
use Rattle.std.proofs.Common.{set, get_or, replicate, ◌⊎◌, inl, inr, ⊎_elim, arith, eq-eqb, eqb-true, get_or-set_other}
use Rattle.std.proofs.lemmas.List.{get_or_past}
use Rattle.std.proofs.lemmas.Bool.{false_from_ne_true}
use Rattle.perm_ranks.specs.Words.{Word, total, all_words}
use Rattle.perm_ranks.proofs.WordLemmas.{In, here, there, Takes, done, takes, words-take, takes-in}
use Rattle.lock_queues.specs.Reasons.{Among}
use Rattle.order_classes.specs.Letters.{times, session_orders, IsOrder}
use Rattle.order_classes.proofs.Serial.{total-set, zeros, all-zero, same-here, each-among}

once : (i j : ℕ) → i ≡ j → ◌≡◌ {A = ℕ} (cond (i == j) 1 0) 1
once i j e = ap (λ b. cond b 1 0) (eq-eqb i j e)

never : (i j : ℕ) → i ≢ j → ◌≡◌ {A = ℕ} (cond (i == j) 1 0) 0
never i j ne = ap (λ b. cond b 1 0) (false_from_ne_true (i == j) (λ h. ne (eqb-true i j h)))

-- a word that takes counts apart has each letter so often
takes-times : (n : ℕ) (c : List ℕ) (v : Word) → Takes n c v → total c ≡ n → (i : ℕ) → times i v ≡ get_or c i 0
takes-times _ c _ done sum i = sym (all-zero c sum i)
takes-times _ c _ (takes {n = n} {i = j} {c = k} {v = v} lt is t) sum i =
    let left = total-set c j (suc k) k lt is in
    let sum2 : total (set c j k) ≡ n = omega (arith, left, sum) in
    let rec : times i v ≡ get_or (set c j k) i 0 = takes-times n (set c j k) v t sum2 i in
    let cases : (i ≡ j) ⊎ ((i < j) ⊎ (j < i)) = grind arith in
    ⊎_elim
    (λ e. (let a = once i j e in
    let b = same-here c j k i e lt in
    let d : get_or c i 0 ≡ suc k = ap (λ z. get_or c z 0) e ∙ is in
    omega (arith, a, b, d, rec)))
    (λ apart. (let ne : i ≢ j = λ e. ⊎_elim (λ g. omega (arith, g, e)) (λ g. omega (arith, g, e)) apart in
    let a = never i j ne in
    let b : get_or (set c j k) i 0 ≡ get_or c i 0 = get_or-set_other c j i k 0 ne in
    omega (arith, a, b, rec))) cases

-- and a word that has them so often takes them apart
times-take : (c : List ℕ) (v : Word) → ((i : ℕ) → times i v ≡ get_or c i 0) → Takes (total c) c v
times-take c [] f = let none : total c ≡ 0 = zeros c (λ i. sym (f i)) in subst (λ n. Takes n c []) (sym none) done
times-take c (j ∷ v) f =
    let a = once j j refl in
    let fj = f j in
    let is : get_or c j 0 ≡ suc (times j v) = omega (arith, a, fj) in
    let inside : j < length c =
    (let cases : (j < length c) ⊎ (length c ≤ j) = grind arith in
    ⊎_elim (λ h. h) (λ h. absurd (let p : get_or c j 0 ≡ 0 = get_or_past c j 0 h in omega (arith, p, is))) cases) in
    let rest : (i : ℕ) → times i v ≡ get_or (set c j (times j v)) i 0 =
    (λ i. (let cases : (i ≡ j) ⊎ ((i < j) ⊎ (j < i)) = grind arith in
    ⊎_elim (λ e. ap (λ z. times z v) e ∙ sym (same-here c j (times j v) i e inside))
    (λ apart. (let ne : i ≢ j = λ e. ⊎_elim (λ g. omega (arith, g, e)) (λ g. omega (arith, g, e)) apart in
    let fi = f i in
    let x = never i j ne in
    let y : get_or (set c j (times j v)) i 0 ≡ get_or c i 0 = get_or-set_other c j i (times j v) 0 ne in
    omega (arith, fi, x, y))) cases)) in
    let rec = times-take (set c j (times j v)) v rest in
    let size : suc (total (set c j (times j v))) ≡ total c = (let p = total-set c j (suc (times j v)) (times j v) inside is in omega (arith, p)) in
    subst (λ n. Takes n c (j ∷ v)) size (takes inside is rec)

ones-at : (n i : ℕ) → i < n → ◌≡◌ {A = ℕ} (get_or (replicate n 1) i 0) 1
ones-at zero i lt = absurd (omega (arith, lt))
ones-at (suc n) zero lt = refl
ones-at (suc n) (suc i) lt = ones-at n i (omega (arith, lt))

ones-past : (n i : ℕ) → n ≤ i → ◌≡◌ {A = ℕ} (get_or (replicate n 1) i 0) 0
ones-past zero i le = refl
ones-past (suc n) zero le = absurd (omega (arith, le))
ones-past (suc n) (suc i) le = ones-past n i (omega (arith, le))

in-among : (v : Word) (vs : List Word) → In v vs → Among v vs
in-among v _ here = inl refl
in-among v _ (there {vs = vs} k) = inr (in-among v vs k)

pub orders-all : (sessions : ℕ) (order : List ℕ) → Among order (session_orders sessions) ↔ IsOrder sessions order
orders-all n order = (
  λ m. (let ones : List ℕ = replicate n 1 in
      let taken = each-among (Takes (total ones) ones) order (all_words ones) (words-take (total ones) ones) m in
      let f = takes-times (total ones) ones order taken refl in
      record { each = λ i lt. f i ∙ ones-at n i lt; none = λ i le. f i ∙ ones-past n i le }),
  λ x. (let ones : List ℕ = replicate n 1 in
      let f : (i : ℕ) → times i order ≡ get_or {A = ℕ} (replicate n 1) i 0 =
      (λ i. (let cases : (i < n) ⊎ (n ≤ i) = grind arith in
      ⊎_elim (λ h. x.each i h ∙ sym (ones-at n i h)) (λ h. x.none i h ∙ sym (ones-past n i h)) cases)) in
      in-among order (all_words ones) (takes-in (total ones) ones order (times-take ones order f))),
)
