-- Each order of sessions, each whole, is the line of a rank.
use Rattle.std.proofs.Common.{◌≡◌, ◌≢◌, refl, sym, ap, ◌∙◌, subst, ℕ, zero, suc, ◌+◌, ◌<◌, List, [], ◌∷◌, ◌++◌, length, set, get_or}
use Rattle.std.proofs.Common.{replicate, ◌⊎◌, inl, inr, ⊎_elim, arith, get_or-set_same, get_or-set_other}
use Rattle.perm_ranks.specs.Words.{Word, total, all_words}
use Rattle.perm_ranks.proofs.TruthLemmas.{Each}
use Rattle.perm_ranks.proofs.WordLemmas.{Takes, done, takes, words-take, takes-in, in-place, place-is}
use Rattle.bound_specs.specs.Spec.{Step, Spec, Queues, queues_from, line, line_by, line_of, ranks, ranks_by, counts_of, queues_of}
use Rattle.lock_queues.specs.Reasons.{Among}
use Rattle.order_classes.specs.Letters.{session_orders, whole_word, serial_line}

pub total-set : (c : List ℕ) (i n k : ℕ) → i < length c → get_or c i 0 ≡ n → total (set c i k) + n ≡ total c + k
total-set [] i n k lt e = absurd (omega arith)
total-set (x ∷ xs) zero n k lt e = let h : x ≡ n = e in omega (arith, h)
total-set (x ∷ xs) (suc i) n k lt e = let rec = total-set xs i n k (omega arith) e in omega (arith, rec)

set-set : (c : List ℕ) (i k l : ℕ) → set (set c i k) i l ≡ set c i l
set-set [] i k l = refl
set-set (x ∷ xs) zero k l = refl
set-set (x ∷ xs) (suc i) k l = ap (λ r. x ∷ r) (set-set xs i k l)

set-own : (c : List ℕ) (i k : ℕ) → get_or c i 0 ≡ k → set c i k ≡ c
set-own [] i k e = refl
set-own (x ∷ xs) zero k e = ap (λ y. y ∷ xs) (sym e)
set-own (x ∷ xs) (suc i) k e = ap (λ r. x ∷ r) (set-own xs i k e)

pub set-length : (c : List ℕ) (i k : ℕ) → length (set c i k) ≡ length c
set-length [] i k = refl
set-length (x ∷ xs) zero k = refl
set-length (x ∷ xs) (suc i) k = let rec = set-length xs i k in omega (arith, rec)

-- all letters of one session, and then what is behind them
take-all : (k : ℕ) (c : List ℕ) (i n : ℕ) (v : Word) → i < length c → get_or c i 0 ≡ k → Takes n (set c i 0) v → Takes (n + k) c (replicate k i ++ v)
take-all zero c i n v lt e t =
    let size : n ≡ n + 0 = omega arith in
    subst (λ m. Takes m c v) size (subst (λ l. Takes n l v) (set-own c i 0 e) t)
take-all (suc k) c i n v lt e t =
    let lt2 : i < length (set c i k) = (let h = set-length c i k in omega (arith, h, lt)) in
    let rec = take-all k (set c i k) i n v lt2 (get_or-set_same c i k 0 lt) (subst (λ l. Takes n l v) (sym (set-set c i k 0)) t) in
    let size : suc (n + k) ≡ n + suc k = omega arith in
    subst (λ m. Takes m c (i ∷ (replicate k i ++ v))) size (takes lt e rec)

pub zeros : (c : List ℕ) → ((i : ℕ) → get_or c i 0 ≡ 0) → total c ≡ 0
zeros [] f = refl
zeros (x ∷ xs) f = let h : x ≡ 0 = f 0 in let rec = zeros xs (λ i. f (suc i)) in omega (arith, h, rec)

pub all-zero : (c : List ℕ) → total c ≡ 0 → (i : ℕ) → get_or c i 0 ≡ 0
all-zero [] e i = refl
all-zero (x ∷ xs) e zero = let h : x ≡ 0 = omega (arith, e) in h
all-zero (x ∷ xs) e (suc i) = all-zero xs (omega (arith, e)) i

-- which sessions are still to come, and what is left of the counts
abbrev Fits : List ℕ → List ℕ → List ℕ → Type 0
Fits counts ones c = (i : ℕ) → ((get_or ones i 0 ≡ 1) × (get_or c i 0 ≡ get_or counts i 0)) ⊎ ((get_or ones i 0 ≡ 0) × (get_or c i 0 ≡ 0))

pub same-here : (c : List ℕ) (i k j : ℕ) → j ≡ i → i < length c → get_or (set c i k) j 0 ≡ k
same-here c i k j e lt = ap (λ z. get_or (set c i k) z 0) e ∙ get_or-set_same c i k 0 lt

other-there : (counts ones c : List ℕ) (i k j : ℕ) → j ≢ i
    → ((get_or ones j 0 ≡ 1) × (get_or c j 0 ≡ get_or counts j 0)) ⊎ ((get_or ones j 0 ≡ 0) × (get_or c j 0 ≡ 0))
    → ((get_or (set ones i k) j 0 ≡ 1) × (get_or (set c i 0) j 0 ≡ get_or counts j 0))
    ⊎ ((get_or (set ones i k) j 0 ≡ 0) × (get_or (set c i 0) j 0 ≡ 0))
other-there counts ones c i k j ne h =
    let a : get_or (set ones i k) j 0 ≡ get_or ones j 0 = get_or-set_other ones i j k 0 ne in
    let b : get_or (set c i 0) j 0 ≡ get_or c j 0 = get_or-set_other c i j 0 0 ne in
    ⊎_elim (λ g. inl (a ∙ g.0, b ∙ g.1)) (λ g. inr (a ∙ g.0, b ∙ g.1)) h

whole-takes : (counts : List ℕ) (n : ℕ) (ones : List ℕ) (order : List ℕ) (c : List ℕ) → Takes n ones order → total ones ≡ n → length ones ≡ length c
    → Fits counts ones c → Takes (total c) c (whole_word counts order)
whole-takes counts _ ones _ c done sum long fits =
    let none : total c ≡ 0 = zeros c (λ i. ⊎_elim (λ h. absurd (let a = h.0 in let b = all-zero ones sum i in omega (arith, a, b))) (λ h. h.1) (fits i)) in
    subst (λ t. Takes t c []) (sym none) done
whole-takes counts _ ones _ c (takes {n = n} {i = i} {c = k} {v = v} lt is t) sum long fits =
    ⊎_elim
    (λ h. (let one = h.0 in
    let k0 : k ≡ 0 = omega (arith, is, one) in
    let inside : i < length c = omega (arith, lt, long) in
    let left = total-set ones i (suc k) k lt is in
    let sum2 : total (set ones i k) ≡ n = omega (arith, left, sum) in
    let long2 : length (set ones i k) ≡ length (set c i 0) =
    (let p = set-length ones i k in let q = set-length c i 0 in omega (arith, p, q, long)) in
    let fits2 : Fits counts (set ones i k) (set c i 0) =
    (λ j. (let cases : (j ≡ i) ⊎ ((j < i) ⊎ (i < j)) = grind arith in
    ⊎_elim
    (λ e. inr (same-here ones i k j e lt ∙ k0, same-here c i 0 j e inside))
    (λ apart. (let ne : j ≢ i = λ e. ⊎_elim (λ g. omega (arith, g, e)) (λ g. omega (arith, g, e)) apart in
    other-there counts ones c i k j ne (fits j))) cases)) in
    let rec = whole-takes counts n (set ones i k) v (set c i 0) t sum2 long2 fits2 in
    let all = take-all (get_or counts i 0) c i (total (set c i 0)) (whole_word counts v) inside h.1 rec in
    let size : total (set c i 0) + get_or counts i 0 ≡ total c = (let p = total-set c i (get_or counts i 0) 0 inside h.1 in omega (arith, p)) in
    subst (λ z. Takes z c (whole_word counts (i ∷ v))) size all))
    (λ h. absurd (let zero' = h.0 in omega (arith, is, zero'))) (fits i)

pub each-among : (P : Word → Type 0) (v : Word) (vs : List Word) → Each P vs → Among v vs → P v
each-among P v [] p m = absurd m
each-among P v (w ∷ vs) p (inl e) = subst P (sym e) p.0
each-among P v (w ∷ vs) p (inr m) = each-among P v vs p.1 m

queues-length : (i n : ℕ) (steps : List Step) → length (counts_of (queues_from i n steps)) ≡ n
queues-length i zero steps = refl
queues-length i (suc n) steps = let rec = queues-length (suc i) n steps in omega (arith, rec)

pub ones-length : (n : ℕ) → length {A = ℕ} (replicate n 1) ≡ n
ones-length zero = refl
ones-length (suc n) = let rec = ones-length n in omega (arith, rec)

ones-fit : (counts : List ℕ) (n : ℕ) → length counts ≡ n → Fits counts (replicate n 1) counts
ones-fit [] zero long i = inr (refl, refl)
ones-fit [] (suc n) long i = absurd (omega (arith, long))
ones-fit (c ∷ cs) zero long i = absurd (omega (arith, long))
ones-fit (c ∷ cs) (suc n) long zero = inl (refl, refl)
ones-fit (c ∷ cs) (suc n) long (suc i) = ones-fit cs n (omega (arith, long)) i

pub serial-ranks : (spec : Spec) → spec.lines ≡ [] → (order : List ℕ) → Among order (session_orders spec.sessions)
    → (r : ℕ) × (r < ranks spec) × (line_of spec r ≡ serial_line spec order)
serial-ranks spec none order m =
    let q : Queues = queues_of spec in
    let counts : List ℕ = counts_of (queues_of spec) in
    let ones : List ℕ = replicate spec.sessions 1 in
    let long : length (counts_of (queues_of spec)) ≡ spec.sessions = queues-length 0 spec.sessions spec.steps in
    let taken = each-among (Takes (total ones) ones) order (all_words ones) (words-take (total ones) ones) m in
    let whole = whole-takes counts (total ones) ones order counts taken refl (ones-length spec.sessions ∙ sym long) (ones-fit counts spec.sessions long) in
    let x = in-place (whole_word counts order) (all_words counts) (takes-in (total counts) counts (whole_word counts order) whole) in
    let p = place-is (whole_word counts order) (all_words counts) x.0 x.1 in (
      x.0,
      subst (λ ls. x.0 < ranks_by ls (queues_of spec)) (sym none) p.0,
      ap (λ ls. line_by ls (queues_of spec) x.0) none ∙ ap (line (queues_of spec)) p.1,
    )
