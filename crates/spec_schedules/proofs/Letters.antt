-- Words whose letters all find a step, and what they send.
use Rattle.std.proofs.Common.{◌≡◌, refl, sym, ap, ◌∙◌, subst, ℕ, zero, suc, ◌+◌, ◌-◌, ◌<◌, ◌==◌, ◌⊎◌, inl, inr, Bool, true, false, cond, List, [], ◌∷◌, ◌++◌, length, get_or, set, map, All, arith, eqb-true, eq-eqb, get_or-set_same, get_or-set_other}
use Rattle.std.proofs.lemmas.Bool.{cases_eq, cases_lt}
use Rattle.std.proofs.lemmas.List.{get_or_past, length-set}
use Rattle.std.proofs.lemmas.List.Elements.{All-nil, All-cons}
use Rattle.path_counts.specs.Paths.{Has}
use Rattle.perm_ranks.specs.Words.{Word, total}
use Rattle.perm_ranks.specs.Counting.{taken}
use Rattle.perm_ranks.proofs.CountLemmas.{total-taken}
use Rattle.perm_ranks.proofs.WordLemmas.{Takes, done, takes}
use Rattle.bound_specs.specs.Spec.{Step, Queues, line, counts_of, steps_of, queues_from}
use Rattle.bound_specs.proofs.WalkLemmas.{get_or-counts, counts-set, line-takes}
use Rattle.spec_schedules.specs.Schedules.{session_of, own_steps}
use Rattle.spec_schedules.proofs.Ranks.{AreLeft}

-- ---- lists

not-eqb : (a b : ℕ) → (a ≡ b → ⊥) → (a == b) ≡ false
not-eqb a b f = at (a == b) refl
  where
    at : (c : Bool) → (a == b) ≡ c → (a == b) ≡ false
    at true e = absurd (f (eqb-true a b e))
    at false e = e

pub nonempty-within : (q : Queues) (i k : ℕ) (ks : List ℕ) → get_or q i [] ≡ k ∷ ks → i < length q
nonempty-within q i k ks e = elim (cases_lt i (length q)) [ inl lt ↦ lt | inr le ↦ absurd (let past = get_or_past q i [] le in cc) ]

abbrev pub tail_of : List ℕ → List ℕ
tail_of [] = []
tail_of (k ∷ ks) = ks

-- ---- the steps of one session among steps

pub own-here : (steps : List Step) (i k : ℕ) (ks : List ℕ) → session_of steps k ≡ i → own_steps steps i (k ∷ ks) ≡ k ∷ own_steps steps i ks
own-here steps i k ks e = ap (λ b. cond b (k ∷ own_steps steps i ks) (own_steps steps i ks)) (eq-eqb (session_of steps k) i e)

pub own-other : (steps : List Step) (i k : ℕ) (ks : List ℕ) → (session_of steps k ≡ i → ⊥) → own_steps steps i (k ∷ ks) ≡ own_steps steps i ks
own-other steps i k ks f = ap (λ b. cond b (k ∷ own_steps steps i ks) (own_steps steps i ks)) (not-eqb (session_of steps k) i f)

-- each step of a queue is its session's
abbrev pub AreQueued : List Step → Queues → Type 0
AreQueued steps q = (i k : ℕ) → Has k (get_or q i []) → session_of steps k ≡ i

pub queued-head : (steps : List Step) (q : Queues) (i k : ℕ) (ks : List ℕ) → AreQueued steps q → get_or q i [] ≡ k ∷ ks → session_of steps k ≡ i
queued-head steps q i k ks h e = h i k (subst (λ xs. Has k xs) (sym e) (inl refl))

pub queued-set : (steps : List Step) (q : Queues) (a k : ℕ) (ks : List ℕ) → AreQueued steps q → get_or q a [] ≡ k ∷ ks → AreQueued steps (set q a ks)
queued-set steps q a k ks h e i m = at (cases_eq i a)
  where
    at : (i ≡ a) ⊎ (i ≡ a → ⊥) → Has m (get_or (set q a ks) i []) → session_of steps m ≡ i
    at (inl s) x = h i m (subst (λ ys. Has m ys) (sym (ap (λ j. get_or q j []) s ∙ e))
        (inr (subst (λ ys. Has m ys) (ap (λ j. get_or (set q a ks) j []) s ∙ get_or-set_same q a ks [] (nonempty-within q a k ks e)) x)))
    at (inr f) x = h i m (subst (λ ys. Has m ys) (get_or-set_other q a i ks [] f) x)

-- ---- words whose letters all find a step

abbrev pub Serves : Queues → Word → Type 0
Serves q [] = Unit {0}
Serves q (a ∷ s) = (0 < length (get_or q a [])) × Serves (set q a (tail_of (get_or q a []))) s

-- what is left behind a word
abbrev pub rest_of : Queues → Word → Queues
rest_of q [] = q
rest_of q (a ∷ s) = rest_of (set q a (tail_of (get_or q a []))) s

-- the first letter finds a step
pub record IsHead (q : Queues) (a : ℕ) : Type 0 where
  pub step : ℕ
  pub rest : List ℕ
  pub queue : get_or q a [] ≡ step ∷ rest
  pub tail : tail_of (get_or q a []) ≡ rest

pub head-of : (q : Queues) (a : ℕ) → 0 < length (get_or q a []) → IsHead q a
head-of q a lt = at (get_or q a []) refl
  where
    at : (xs : List ℕ) → get_or q a [] ≡ xs → IsHead q a
    at [] e = absurd (let l = ap length e in omega arith)
    at (k ∷ ks) e = record { step = k; rest = ks; queue = e; tail = ap tail_of e }

pub length-rest : (q : Queues) (s : Word) → length (rest_of q s) ≡ length q
length-rest q [] = refl
length-rest q (a ∷ s) = length-rest (set q a (tail_of (get_or q a []))) s ∙ length-set q a (tail_of (get_or q a []))

pub line-append : (q : Queues) (s t : Word) → Serves q s → line q (s ++ t) ≡ line q s ++ line (rest_of q s) t
line-append q [] t h = refl
line-append q (a ∷ s) t h =
    let x = head-of q a h.0 in
    line-takes q a x.step x.rest (s ++ t) x.queue
    ∙ ap (λ l. x.step ∷ l) (ap (λ r. line (set q a r) (s ++ t)) (sym x.tail) ∙ line-append (set q a (tail_of (get_or q a []))) s t h.1 ∙ ap (λ r. line (set q a r) s ++ line (rest_of (set q a (tail_of (get_or q a []))) s) t) x.tail)
    ∙ ap (λ l. l ++ line (rest_of (set q a (tail_of (get_or q a []))) s) t) (sym (line-takes q a x.step x.rest s x.queue))

module _ (steps : List Step) where
  -- a word is the sessions of its steps
  pub sessions-line : (q : Queues) (s : Word) → AreQueued steps q → Serves q s → map (session_of steps) (line q s) ≡ s
  sessions-line q [] h v = refl
  sessions-line q (a ∷ s) h v =
      let x = head-of q a v.0 in
      let rest : map (session_of steps) (line (set q a x.rest) s) ≡ s =
      sessions-line (set q a x.rest) s (queued-set steps q a x.step x.rest h x.queue) (subst (λ r. Serves (set q a r) s) x.tail v.1) in
      ap (map (session_of steps)) (line-takes q a x.step x.rest s x.queue) ∙ (λ j. queued-head steps q a x.step x.rest h x.queue j ∷ rest j)

  -- what a word sends of a session, with what it leaves, is the session's queue
  pub own-line : (q : Queues) (s : Word) → AreQueued steps q → Serves q s → (i : ℕ) → own_steps steps i (line q s) ++ get_or (rest_of q s) i [] ≡ get_or q i []
  own-line q [] h v i = refl
  own-line q (a ∷ s) h v i =
      let x = head-of q a v.0 in
      let set_is : set q a (tail_of (get_or q a [])) ≡ set q a x.rest = ap (λ r. set q a r) x.tail in
      let rest : own_steps steps i (line (set q a x.rest) s) ++ get_or (rest_of (set q a x.rest) s) i [] ≡ get_or (set q a x.rest) i [] =
      own-line (set q a x.rest) s (queued-set steps q a x.step x.rest h x.queue) (subst (λ r. Serves (set q a r) s) x.tail v.1) i in
      let own = queued-head steps q a x.step x.rest h x.queue in
      ap (λ l. own_steps steps i l ++ get_or (rest_of (set q a (tail_of (get_or q a []))) s) i []) (line-takes q a x.step x.rest s x.queue)
      ∙ ap (λ p. own_steps steps i (x.step ∷ line (set q a x.rest) s) ++ get_or (rest_of p s) i []) set_is
      ∙ elim (cases_eq i a) as (λ _. own_steps steps i (x.step ∷ line (set q a x.rest) s) ++ get_or (rest_of (set q a x.rest) s) i [] ≡ get_or q i []) [
        | inl e ↦ ap (λ l. l ++ get_or (rest_of (set q a x.rest) s) i []) (own-here steps i x.step (line (set q a x.rest) s) (own ∙ sym e))
            ∙ ap (λ l. x.step ∷ l) (rest ∙ ap (λ j. get_or (set q a x.rest) j []) e ∙ get_or-set_same q a x.rest [] (nonempty-within q a x.step x.rest x.queue))
            ∙ sym (ap (λ j. get_or q j []) e ∙ x.queue)
        | inr f ↦ ap (λ l. l ++ get_or (rest_of (set q a x.rest) s) i []) (own-other steps i x.step (line (set q a x.rest) s) (λ o. f (sym o ∙ own)))
            ∙ rest ∙ get_or-set_other q a i x.rest [] f
      ]

  pub known-line : (q : Queues) (s : Word) → AreQueued steps q → Serves q s → All (λ k. session_of steps k < length q) (line q s)
  known-line q [] h v = All-nil (λ k. session_of steps k < length q)
  known-line q (a ∷ s) h v =
      let x = head-of q a v.0 in
      let rest : All (λ k. session_of steps k < length (set q a x.rest)) (line (set q a x.rest) s) =
      known-line (set q a x.rest) s (queued-set steps q a x.step x.rest h x.queue) (subst (λ r. Serves (set q a r) s) x.tail v.1) in
      let here : session_of steps x.step < length q = subst (λ n. n < length q) (sym (queued-head steps q a x.step x.rest h x.queue)) (nonempty-within q a x.step x.rest x.queue) in
      subst (λ l. All (λ k. session_of steps k < length q) l) (sym (line-takes q a x.step x.rest s x.queue))
      (All-cons (λ k. session_of steps k < length q) x.step (line (set q a x.rest) s) here (subst (λ n. All (λ k. session_of steps k < n) (line (set q a x.rest) s)) (length-set q a x.rest) rest))

-- ---- words and counts

pub counts-taken : (q : Queues) (a k : ℕ) (ks : List ℕ) → get_or q a [] ≡ k ∷ ks → counts_of (set q a ks) ≡ taken (counts_of q) a
counts-taken q a k ks e =
    let many : get_or (counts_of q) a 0 ≡ length (k ∷ ks) = get_or-counts q a ∙ ap length e in
    let less : length ks ≡ get_or (counts_of q) a 0 - 1 = omega arith in
    counts-set q a ks ∙ ap (λ n. set (counts_of q) a n) less

pub left-served : (q : Queues) (s : Word) → Serves q s → AreLeft (counts_of q) s
left-served q [] v = tt
left-served q (a ∷ s) v =
    let x = head-of q a v.0 in
    let rest = left-served (set q a x.rest) s (subst (λ r. Serves (set q a r) s) x.tail v.1) in
    (let n = get_or-counts q a in let l = v.0 in omega arith, subst (λ c. AreLeft c s) (counts-taken q a x.step x.rest x.queue) rest)

pub served-takes : (n : ℕ) (counts : List ℕ) (v : Word) → Takes n counts v → (q : Queues) → counts_of q ≡ counts → Serves q v
served-takes _ counts _ done q e = tt
served-takes _ counts _ (takes {n = n} {i = i} {c = c} {v = v} lt is t) q e =
    let many : length (get_or q i []) ≡ suc c = sym (get_or-counts q i) ∙ ap (λ ns. get_or ns i 0) e ∙ is in
    let some : 0 < length (get_or q i []) = omega arith in
    let x = head-of q i some in
    let left : length x.rest ≡ c = (let l = ap length x.queue in omega arith) in
    let counts_are : counts_of (set q i x.rest) ≡ set counts i c = counts-set q i x.rest ∙ (λ j. set (e j) i (left j)) in
    (some, subst (λ r. Serves (set q i r) v) (sym x.tail) (served-takes n (set counts i c) v t (set q i x.rest) counts_are))

-- a word takes as many steps as it has letters
pub total-rest : (q : Queues) (s : Word) → Serves q s → total (counts_of (rest_of q s)) + length s ≡ total (counts_of q)
total-rest q [] v = omega arith
total-rest q (a ∷ s) v =
    let x = head-of q a v.0 in
    let rest = total-rest (set q a (tail_of (get_or q a []))) s v.1 in
    let some : 0 < get_or (counts_of q) a 0 = (let n = get_or-counts q a in let l = v.0 in omega arith) in
    let less = total-taken (counts_of q) a some in
    let same : total (counts_of (set q a (tail_of (get_or q a [])))) ≡ total (taken (counts_of q) a) = ap (λ r. total (counts_of (set q a r))) x.tail ∙ ap total (counts-taken q a x.step x.rest x.queue) in
    omega arith

-- ---- the queues of a spec

steps-own : (i j k : ℕ) (ss : List Step) → Has k (steps_of i j ss) → (d : ℕ) × (k ≡ j + d) × (session_of ss d ≡ i)
steps-own i j k [] h = absurd h
steps-own i j k (s ∷ ss) h = by (s.session == i) refl h (λ x. steps-own i (suc j) k ss x)
  where
    by : (b : Bool) → (s.session == i) ≡ b → Has k (cond b (j ∷ steps_of i (suc j) ss) (steps_of i (suc j) ss)) → (Has k (steps_of i (suc j) ss) → (d : ℕ) × (k ≡ suc j + d) × (session_of ss d ≡ i))
        → (d : ℕ) × (k ≡ j + d) × (session_of (s ∷ ss) d ≡ i)
    by true e (inl x) rest = (0, omega (arith, x), eqb-true s.session i e)
    by true e (inr x) rest = let r = rest x in (suc r.0, (let far = r.1 in omega arith), r.2)
    by false e x rest = let r = rest x in (suc r.0, (let far = r.1 in omega arith), r.2)

queues-own : (steps : List Step) (j n i k : ℕ) → Has k (get_or (queues_from j n steps) i []) → session_of steps k ≡ j + i
queues-own steps j zero i k h = absurd h
queues-own steps j (suc n) zero k h = let x = steps-own j 0 k steps h in (let far : k ≡ x.0 = (let f = x.1 in omega arith) in ap (session_of steps) far ∙ x.2 ∙ (omega arith))
queues-own steps j (suc n) (suc i) k h = let x = queues-own steps (suc j) n i k h in omega arith

pub spec-queued : (steps : List Step) (n : ℕ) → AreQueued steps (queues_from 0 n steps)
spec-queued steps n i k h = let x = queues-own steps 0 n i k h in omega arith

pub length-queues : (steps : List Step) (j n : ℕ) → length (queues_from j n steps) ≡ n
length-queues steps j zero = refl
length-queues steps j (suc n) = ap suc (length-queues steps (suc j) n)
