-- The next step of a session, and the line of a word by its first letter.
use Rattle.std.proofs.Common.{◌≡◌, ◌≢◌, refl, sym, ap, ◌∙◌, subst, ℕ, zero, suc, ◌+◌, ◌-◌, ◌<◌, ◌≤◌, ◌==◌, Bool, true, false, cond, List, [], ◌∷◌, length, drop, set, get_or, arith}
use Rattle.std.proofs.Common.{eqb-true, eq-eqb}
use Rattle.std.proofs.lemmas.Bool.{false≢true}
use Rattle.std.proofs.lemmas.List.{get_or-drop, length-drop}
use Rattle.perm_ranks.specs.Words.{Word, total}
use Rattle.perm_ranks.proofs.WordLemmas.{Takes, done, takes}
use Rattle.bound_specs.specs.Spec.{Step, no_step, Queues, line, counts_of, steps_of}
use Rattle.bound_specs.specs.Walking.{steps_from, queues_at}
use Rattle.bound_specs.proofs.WalkLemmas.{get_or-counts, counts-set, line-takes}
use Rattle.order_names.specs.Orders.{session_of}

-- ---- the first step of a session

-- so many steps on there is one of the session, and before it none
pub record IsHead (i : ℕ) (ss : List Step) (d : ℕ) : Type 0 where
  pub inside : d < length ss
  pub own : session_of ss d ≡ i
  pub others : (l : ℕ) → l < d → session_of ss l ≢ i

head-here : (i : ℕ) (s : Step) (ss : List Step) → (s.session == i) ≡ true → IsHead i (s ∷ ss) 0
head-here i s ss e = record { inside = omega arith; own = eqb-true s.session i e; others = λ l lt. absurd (omega (arith, lt)) }

head-later : (i : ℕ) (s : Step) (ss : List Step) (d : ℕ) → (s.session == i) ≡ false → IsHead i ss d → IsHead i (s ∷ ss) (suc d)
head-later i s ss d e h = record { inside = (let lt = h.inside in omega (arith, lt)); own = h.own; others = others }
  where
    others : (l : ℕ) → l < suc d → session_of (s ∷ ss) l ≢ i
    others zero lt = λ same. false≢true (sym e ∙ eq-eqb s.session i same)
    others (suc l) lt = h.others l (omega (arith, lt))

pub head-at : (i k : ℕ) (ss : List Step) (m : ℕ) (ms : List ℕ) → steps_of i k ss ≡ m ∷ ms → (d : ℕ) × (m ≡ k + d) × IsHead i ss d
head-at i k [] m ms e = cc
head-at i k (s ∷ ss) m ms e = by (s.session == i) refl e (λ h. head-at i (suc k) ss m ms h)
  where
    by : (b : Bool) → (s.session == i) ≡ b → cond b (k ∷ steps_of i (suc k) ss) (steps_of i (suc k) ss) ≡ m ∷ ms
        → (steps_of i (suc k) ss ≡ m ∷ ms → (d : ℕ) × (m ≡ suc k + d) × IsHead i ss d) → (d : ℕ) × (m ≡ k + d) × IsHead i (s ∷ ss) d
    by true is h rest = let same : k ≡ m = cc in (0, omega (arith, same), head-here i s ss is)
    by false is h rest = let x = rest h in let far = x.1 in (suc x.0, omega (arith, far), head-later i s ss x.0 is x.2)

none-at : (i k : ℕ) (ss : List Step) → steps_of i k ss ≡ [] → (l : ℕ) → l < length ss → session_of ss l ≢ i
none-at i k [] e l lt = absurd (omega (arith, lt))
none-at i k (s ∷ ss) e l lt = by (s.session == i) refl e l lt (λ h n in'. none-at i (suc k) ss h n in')
  where
    by : (b : Bool) → (s.session == i) ≡ b → cond b (k ∷ steps_of i (suc k) ss) (steps_of i (suc k) ss) ≡ [] → (l : ℕ) → l < suc (length ss)
        → (steps_of i (suc k) ss ≡ [] → (n : ℕ) → n < length ss → session_of ss n ≢ i) → session_of (s ∷ ss) l ≢ i
    by true is h l lt rest = cc
    by false is h zero lt rest = λ same. false≢true (sym is ∙ eq-eqb s.session i same)
    by false is h (suc l) lt rest = rest h l (omega (arith, lt))

-- the session's first step from a number on
pub record IsNext (i from : ℕ) (steps : List Step) (m : ℕ) : Type 0 where
  pub behind : from ≤ m
  pub known : m < length steps
  pub own : session_of steps m ≡ i
  pub first : (l : ℕ) → from ≤ l → l < m → session_of steps l ≢ i

pub next-is : (i from : ℕ) (steps : List Step) (m : ℕ) (ms : List ℕ) → steps_from i from steps ≡ m ∷ ms → IsNext i from steps m
next-is i from steps m ms e =
    let x = head-at i from (drop from steps) m ms e in
    let far = x.1 in
    let inside = x.2.inside in
    let short = length-drop from steps in
    let at : (l : ℕ) → session_of (drop from steps) l ≡ session_of steps (from + l) = λ l. ap (λ (s : Step). s.session) (get_or-drop from steps l no_step) in
    record {
      behind = omega (arith, far);
      known = omega (arith, far, inside, short);
      own = ap (session_of steps) far ∙ sym (at x.0) ∙ x.2.own;
      first = λ l le lt same. x.2.others (l - from) (omega (arith, far, le, lt))
          (at (l - from) ∙ ap (session_of steps) (let back : from + (l - from) ≡ l = omega (arith, le) in back) ∙ same);
    }

pub none-next : (i from : ℕ) (steps : List Step) → steps_from i from steps ≡ [] → (l : ℕ) → from ≤ l → l < length steps → session_of steps l ≢ i
none-next i from steps e l le lt same =
    let short = length-drop from steps in
    none-at i from (drop from steps) e (l - from) (omega (arith, le, lt, short))
    (ap (λ (s : Step). s.session) (get_or-drop from steps (l - from) no_step)
    ∙ ap (session_of steps) (let back : from + (l - from) ≡ l = omega (arith, le) in back) ∙ same)

-- ---- the first letter of a word

-- the word begins with a letter whose session sends this step
pub record IsFirst (q : Queues) (w : Word) (step : ℕ) (rest : List ℕ) : Type 0 where
  pub letter : ℕ
  pub word : Word
  pub more : List ℕ
  pub left : ℕ
  pub word_is : w ≡ letter ∷ word
  pub queue : get_or q letter [] ≡ step ∷ more
  pub line_is : line (set q letter more) word ≡ rest
  pub taken : Takes left (counts_of (set q letter more)) word

first-of : (m : ℕ) (counts : List ℕ) (w : Word) → Takes m counts w → (q : Queues) → counts_of q ≡ counts → (step : ℕ) (rest : List ℕ) → line q w ≡ step ∷ rest
    → IsFirst q w step rest
first-of _ counts _ done q e step rest l = cc
first-of _ counts _ (takes {n = n} {i = i} {c = c} {v = v} lt is t) q e step rest l = at (get_or q i []) refl
  where
    many : length (get_or q i []) ≡ suc c
    many = sym (get_or-counts q i) ∙ ap (λ ns. get_or ns i 0) e ∙ is

    at : (xs : List ℕ) → get_or q i [] ≡ xs → IsFirst q (i ∷ v) step rest
    at [] h = absurd (let bad : 0 ≡ suc c = sym (ap length h) ∙ many in omega (arith, bad))
    at (x ∷ xs) h =
        let left : length xs ≡ c = (let f : suc (length xs) ≡ suc c = sym (ap length h) ∙ many in omega (arith, f)) in
        let told : x ∷ line (set q i xs) v ≡ step ∷ rest = sym (line-takes q i x xs v h) ∙ l in
        let first : x ≡ step = cc in
        let counts_are : counts_of (set q i xs) ≡ set counts i c = counts-set q i xs ∙ (λ k. set (e k) i (left k)) in
        record {
          letter = i;
          word = v;
          more = xs;
          left = n;
          word_is = refl;
          queue = h ∙ ap (λ s. s ∷ xs) first;
          line_is = cc told;
          taken = subst (λ cs. Takes n cs v) (sym counts_are) t;
        }

pub first-letter : (m : ℕ) (q : Queues) (w : Word) → Takes m (counts_of q) w → (step : ℕ) (rest : List ℕ) → line q w ≡ step ∷ rest → IsFirst q w step rest
first-letter m q w t step rest l = first-of m (counts_of q) w t q refl step rest l

-- a word whose line is none has no letter
no-letter-of : (m : ℕ) (counts : List ℕ) (w : Word) → Takes m counts w → (q : Queues) → counts_of q ≡ counts → line q w ≡ [] → w ≡ []
no-letter-of _ counts _ done q e l = refl
no-letter-of _ counts _ (takes {n = n} {i = i} {c = c} {v = v} lt is t) q e l = at (get_or q i []) refl
  where
    many : length (get_or q i []) ≡ suc c
    many = sym (get_or-counts q i) ∙ ap (λ ns. get_or ns i 0) e ∙ is

    at : (xs : List ℕ) → get_or q i [] ≡ xs → i ∷ v ≡ []
    at [] h = absurd (let bad : 0 ≡ suc c = sym (ap length h) ∙ many in omega (arith, bad))
    at (x ∷ xs) h = let told : x ∷ line (set q i xs) v ≡ [] = sym (line-takes q i x xs v h) ∙ l in cc

pub no-letter : (m : ℕ) (q : Queues) (w : Word) → Takes m (counts_of q) w → line q w ≡ [] → w ≡ []
no-letter m q w t l = no-letter-of m (counts_of q) w t q refl l

-- ---- queues that are empty

pub empty-total : (j n : ℕ) (next : List ℕ) (steps : List Step)
    → ((i : ℕ) → i < n → steps_from (j + i) (get_or next (j + i) 0) steps ≡ []) → total (counts_of (queues_at j n next steps)) ≡ 0
empty-total j zero next steps none = refl
empty-total j (suc n) next steps none =
    let here : j + 0 ≡ j = omega arith in
    let head : steps_from j (get_or next j 0) steps ≡ [] = ap (λ i. steps_from i (get_or next i 0) steps) (sym here) ∙ none 0 (omega arith) in
    let rest = empty-total (suc j) n next steps (λ i lt. (let one : suc j + i ≡ j + suc i = omega arith in
    ap (λ m. steps_from m (get_or next m 0) steps) one ∙ none (suc i) (omega (arith, lt)))) in
    let none_here : length (steps_from j (get_or next j 0) steps) ≡ 0 = ap length head in
    omega (arith, none_here, rest)
