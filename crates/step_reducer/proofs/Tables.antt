-- The lists of a table, and the steps of a session one by one.
use Rattle.std.proofs.Common.{◌≡◌, refl, sym, ap, ◌∙◌, ℕ, zero, suc, ◌+◌, ◌<◌, ◌≤◌, Bool, true, false, cond, ◌==◌, List, [], ◌∷◌, ◌++◌, length, map, drop, take}
use Rattle.std.proofs.Common.{get_or, ◌⊎◌, ⊎_elim, arith, eqb-true}
use Rattle.std.proofs.lemmas.List.{take_more}
use Rattle.bound_specs.specs.Spec.{Step, Spec, no_step, steps_of, queues_from, queues_of}

-- the list that a table has there
pub table-at : {A : Type 0} (f : A → List ℕ) (xs : List A) (i : ℕ) (d : A) → i < length xs → get_or (map f xs) i [] ≡ f (get_or xs i d)
table-at f [] i d lt = absurd (omega arith)
table-at f (x ∷ xs) zero d lt = refl
table-at f (x ∷ xs) (suc i) d lt = table-at f xs i d (omega arith)

drop-head : (xs : List Step) (k : ℕ) (x : Step) (rest : List Step) → drop k xs ≡ x ∷ rest → get_or xs k no_step ≡ x
drop-head [] zero x rest e = cc
drop-head [] (suc k) x rest e = cc
drop-head (y ∷ xs) zero x rest e = cc
drop-head (y ∷ xs) (suc k) x rest e = drop-head xs k x rest e

drop-tail : (xs : List Step) (k : ℕ) (x : Step) (rest : List Step) → drop k xs ≡ x ∷ rest → drop (suc k) xs ≡ rest
drop-tail [] zero x rest e = cc
drop-tail [] (suc k) x rest e = cc
drop-tail (y ∷ xs) zero x rest e = cc
drop-tail (y ∷ xs) (suc k) x rest e = drop-tail xs k x rest e

-- where some are left there is a first one
pub drop-some : (xs : List ℕ) (n : ℕ) → n < length xs → (x : ℕ) × ((rest : List ℕ) × (drop n xs ≡ x ∷ rest))
drop-some [] n lt = absurd (omega arith)
drop-some (x ∷ xs) zero lt = (x, (xs, refl))
drop-some (x ∷ xs) (suc n) lt = drop-some xs n (omega arith)

-- the steps of a session among some steps and one more
pub steps_of-push : (i k n : ℕ) (ss : List Step) (s : Step) → n ≡ k + length ss
    → steps_of i k (ss ++ s ∷ []) ≡ steps_of i k ss ++ cond (s.session == i) (n ∷ []) []
steps_of-push i k n [] s e = (let same : k ≡ n = omega arith in at same (s.session == i))
  where
    at : k ≡ n → (b : Bool) → cond b (k ∷ []) [] ≡ cond b (n ∷ []) []
    at same b = ap (λ m. cond b (m ∷ []) []) same
steps_of-push i k n (x ∷ ss) s e = at (x.session == i) (steps_of-push i (suc k) n ss s (omega arith))
  where
    at : (b : Bool) → steps_of i (suc k) (ss ++ s ∷ []) ≡ steps_of i (suc k) ss ++ cond (s.session == i) (n ∷ []) []
        → cond b (k ∷ steps_of i (suc k) (ss ++ s ∷ [])) (steps_of i (suc k) (ss ++ s ∷ [])) ≡ cond b (k ∷ steps_of i (suc k) ss)
        (steps_of i (suc k) ss) ++ cond (s.session == i) (n ∷ []) []
    at true rest = ap (λ l. k ∷ l) rest
    at false rest = rest

-- each of them is one of the steps
pub steps_of-known : (i k n m : ℕ) (ks : List ℕ) (ss : List Step) → drop n (steps_of i k ss) ≡ m ∷ ks → m < k + length ss
steps_of-known i k zero m ks [] e = cc
steps_of-known i k (suc n) m ks [] e = cc
steps_of-known i k n m ks (s ∷ ss) e = at (s.session == i) n e (λ j h. steps_of-known i (suc k) j m ks ss h)
  where
    at : (b : Bool) (j : ℕ) → drop j (cond b (k ∷ steps_of i (suc k) ss) (steps_of i (suc k) ss)) ≡ m ∷ ks
        → ((x : ℕ) → drop x (steps_of i (suc k) ss) ≡ m ∷ ks → m < suc k + length ss) → m < k + suc (length ss)
    at true zero h rec = (let same : k ≡ m = cc in omega arith)
    at true (suc j) h rec = (let lt = rec j h in omega arith)
    at false j h rec = (let lt = rec j h in omega arith)

-- and one of that session, by its number among all
steps_of-owned : (i k n m : ℕ) (ks : List ℕ) (ss all : List Step) → drop k all ≡ ss → drop n (steps_of i k ss) ≡ m ∷ ks → (get_or all m no_step).session ≡ i
steps_of-owned i k zero m ks [] all at e = cc
steps_of-owned i k (suc n) m ks [] all at e = cc
steps_of-owned i k n m ks (s ∷ ss) all at e = here (s.session == i) refl n e (λ j h. steps_of-owned i (suc k) j m ks ss all (drop-tail all k s ss at) h)
  where
    here : (b : Bool) → (s.session == i) ≡ b → (j : ℕ) → drop j (cond b (k ∷ steps_of i (suc k) ss) (steps_of i (suc k) ss)) ≡ m ∷ ks
        → ((x : ℕ) → drop x (steps_of i (suc k) ss) ≡ m ∷ ks → (get_or all m no_step).session ≡ i) → (get_or all m no_step).session ≡ i
    here true is zero h rec =
        let same : k ≡ m = cc in
        ap (λ x. (get_or all x no_step).session) (sym same) ∙ ap (λ (x : Step). x.session) (drop-head all k s ss at) ∙ eqb-true s.session i is
    here true is (suc j) h rec = rec j h
    here false is j h rec = rec j h

queue-at : (i n a : ℕ) (ss : List Step) → a < n → get_or (queues_from i n ss) a [] ≡ steps_of (i + a) 0 ss
queue-at i zero a ss lt = absurd (omega arith)
queue-at i (suc n) zero ss lt = (let same : i ≡ i + 0 = omega arith in ap (λ j. steps_of j 0 ss) same)
queue-at i (suc n) (suc a) ss lt = (let same : suc i + a ≡ i + suc a = omega arith in queue-at (suc i) n a ss (omega arith) ∙ ap (λ j. steps_of j 0 ss) same)

queue-past : (i n a : ℕ) (ss : List Step) → n ≤ a → get_or (queues_from i n ss) a [] ≡ []
queue-past i zero zero ss le = refl
queue-past i zero (suc a) ss le = refl
queue-past i (suc n) zero ss le = absurd (omega arith)
queue-past i (suc n) (suc a) ss le = queue-past (suc i) n a ss (omega arith)

-- a step of a session's list is one of the spec's
pub step-known : (spec : Spec) (a n m : ℕ) (ks : List ℕ) → drop n (get_or (queues_of spec) a []) ≡ m ∷ ks → m < length spec.steps
step-known spec a n m ks e = ⊎_elim inside outside cases
  where
    cases : (a < spec.sessions) ⊎ (spec.sessions ≤ a)
    cases = grind arith

    inside : a < spec.sessions → m < length spec.steps
    inside lt = let known = steps_of-known (0 + a) 0 n m ks spec.steps (sym (ap (drop n) (queue-at 0 spec.sessions a spec.steps lt)) ∙ e) in omega arith

    empty : (j : ℕ) → drop j [] ≡ m ∷ ks → m < length spec.steps
    empty zero h = cc
    empty (suc j) h = cc

    outside : spec.sessions ≤ a → m < length spec.steps
    outside le = empty n (sym (ap (drop n) (queue-past 0 spec.sessions a spec.steps le)) ∙ e)

-- and one of that session
pub step-owned : (spec : Spec) (a n m : ℕ) (ks : List ℕ) → drop n (get_or (queues_of spec) a []) ≡ m ∷ ks → (get_or spec.steps m no_step).session ≡ a
step-owned spec a n m ks e = ⊎_elim inside outside cases
  where
    cases : (a < spec.sessions) ⊎ (spec.sessions ≤ a)
    cases = grind arith

    inside : a < spec.sessions → (get_or spec.steps m no_step).session ≡ a
    inside lt = steps_of-owned (0 + a) 0 n m ks spec.steps spec.steps refl (sym (ap (drop n) (queue-at 0 spec.sessions a spec.steps lt)) ∙ e)
        ∙ (let same : 0 + a ≡ a = omega arith in same)

    empty : (j : ℕ) → drop j [] ≡ m ∷ ks → (get_or spec.steps m no_step).session ≡ a
    empty zero h = cc
    empty (suc j) h = cc

    outside : spec.sessions ≤ a → (get_or spec.steps m no_step).session ≡ a
    outside le = empty n (sym (ap (drop n) (queue-past 0 spec.sessions a spec.steps le)) ∙ e)

-- who has steps is a session
pub session-known : (spec : Spec) (a : ℕ) → 0 < length (get_or (queues_of spec) a []) → a < spec.sessions
session-known spec a some =
    ⊎_elim (λ h. h) (λ le. absurd (let none = ap (λ (l : List ℕ). length l) (queue-past 0 spec.sessions a spec.steps le) in omega (arith, none))) cases
  where
    cases : (a < spec.sessions) ⊎ (spec.sessions ≤ a)
    cases = grind arith

-- the first of what is left is read at its place
pub drop-at : (xs : List ℕ) (n x : ℕ) → n < length xs → x ≡ get_or xs n x → drop n xs ≡ x ∷ drop (suc n) xs
drop-at [] n x lt e = absurd (omega arith)
drop-at (y ∷ xs) zero x lt e = ap (λ z. z ∷ xs) (sym e)
drop-at (y ∷ xs) (suc n) x lt e = drop-at xs n x (omega arith) e

pub some-inside : (q : List (List ℕ)) (a : ℕ) → 0 < length (get_or q a []) → a < length q
some-inside [] a some = absurd (omega arith)
some-inside (x ∷ q) zero some = omega arith
some-inside (x ∷ q) (suc a) some = (let rest = some-inside q a some in omega (arith, rest))

pub queues-push : (i n : ℕ) (ss : List Step) → queues_from i (suc n) ss ≡ queues_from i n ss ++ steps_of (i + n) 0 ss ∷ []
queues-push i zero ss = (let same : i ≡ i + 0 = omega arith in ap (λ j. steps_of j 0 ss ∷ []) same)
queues-push i (suc n) ss =
    (let same : suc i + n ≡ i + suc n = omega arith in ap (λ q. steps_of i 0 ss ∷ q)
    (queues-push (suc i) n ss ∙ ap (λ j. queues_from (suc i) n ss ++ steps_of j 0 ss ∷ []) same))

length-front : (xs : List Step) (n : ℕ) → n ≤ length xs → length (take n xs) ≡ n
length-front xs zero le = refl
length-front [] (suc n) le = absurd (omega arith)
length-front (x ∷ xs) (suc n) le = ap suc (length-front xs n (omega arith))

pub take-past : {A : Type 0} (xs : List A) (n : ℕ) → length xs ≤ n → take n xs ≡ xs
take-past [] zero le = refl
take-past [] (suc n) le = refl
take-past (x ∷ xs) zero le = absurd (omega arith)
take-past (x ∷ xs) (suc n) le = ap (λ l. x ∷ l) (take-past xs n (omega arith))

-- one step more
pub steps-next : (i n : ℕ) (ss : List Step) → n < length ss
    → steps_of i 0 (take (n + 1) ss) ≡ steps_of i 0 (take n ss) ++ cond ((get_or ss n no_step).session == i) (n ∷ []) []
steps-next i n ss lt =
    let len = length-front ss n (omega arith) in
    ap (steps_of i 0) (take_more ss n no_step lt) ∙ steps_of-push i 0 n (take n ss) (get_or ss n no_step) (omega (arith, len))

pub map-push : {A : Type 0} (f : A → List ℕ) (xs : List A) (x : A) → map f (xs ++ x ∷ []) ≡ map f xs ++ f x ∷ []
map-push f [] x = refl
map-push f (y ∷ xs) x = ap (λ l. f y ∷ l) (map-push f xs x)
