-- Queues by the step number from which on each session's steps are still to be sent.
use Rattle.std.proofs.Common.{◌≡◌, refl, append_assoc, add-one, ◌++◌, sym, ap, ◌∙◌, ℕ, zero, suc, ◌+◌, ◌<◌, ◌≤◌, ◌≢◌, List, [], ◌∷◌, length, get_or, set, drop}
use Rattle.std.proofs.Common.{arith, drop-cons, get_or-set_other, get_or-set_same}
use Rattle.std.proofs.lemmas.List.{get_or_past}
use Rattle.perm_ranks.specs.Words.{Word}
use Rattle.bound_specs.specs.Spec.{Step, Queues, line, counts_of, queues_from}
use Rattle.bound_specs.specs.Walking.{steps_from, queues_at}

-- the count of a queue is its length
pub get_or-counts : (q : Queues) (i : ℕ) → get_or (counts_of q) i 0 ≡ length (get_or q i [])
get_or-counts [] i = refl
get_or-counts (ks ∷ q) zero = refl
get_or-counts (ks ∷ q) (suc i) = get_or-counts q i

-- the counts of queues of which one is changed
pub counts-set : (q : Queues) (i : ℕ) (ks : List ℕ) → counts_of (set q i ks) ≡ set (counts_of q) i (length ks)
counts-set [] i ks = refl
counts-set (l ∷ q) zero ks = refl
counts-set (l ∷ q) (suc i) ks = ap (λ ns. length l ∷ ns) (counts-set q i ks)

-- a letter takes the head of its queue
pub line-takes : (q : Queues) (i k : ℕ) (ks : List ℕ) (word : Word) → get_or q i [] ≡ k ∷ ks → line q (i ∷ word) ≡ k ∷ line (set q i ks) word
line-takes q i k ks word e = rw (e, line) refl

-- a letter whose queue is empty takes nothing
pub line-skips : (q : Queues) (i : ℕ) (word : Word) → get_or q i [] ≡ [] → line q (i ∷ word) ≡ line q word
line-skips q i word e = rw (e, line) refl

module _ (steps : List Step) where
  length-queues_at : (j n : ℕ) (next : List ℕ) → length (queues_at j n next steps) ≡ n
  length-queues_at j zero next = refl
  length-queues_at j (suc n) next = ap suc (length-queues_at (suc j) n next)

  pub get_or-queues_at : (j n i m : ℕ) (next : List ℕ) → i < n → j + i ≡ m → get_or (queues_at j n next steps) i [] ≡ steps_from m (get_or next m 0) steps
  get_or-queues_at j zero i m next h e = absurd (omega arith)
  get_or-queues_at j (suc n) zero m next h e = let same : j ≡ m = omega arith in ap (λ s. steps_from s (get_or next s 0) steps) same
  get_or-queues_at j (suc n) (suc i) m next h e = get_or-queues_at (suc j) n i m next (omega arith) (omega arith)

  -- no session has this number
  pub get_or-queues_at-past : (n i : ℕ) (next : List ℕ) → n ≤ i → get_or (queues_at 0 n next steps) i [] ≡ []
  get_or-queues_at-past n i next h = get_or_past (queues_at 0 n next steps) i [] (omega (arith, length-queues_at 0 n next))

  queues_at-other : (j n m k : ℕ) (next : List ℕ) → m < j → queues_at j n (set next m k) steps ≡ queues_at j n next steps
  queues_at-other j zero m k next h = refl
  queues_at-other j (suc n) m k next h =
      let other : j ≢ m = omega arith in
      let same : get_or (set next m k) j 0 ≡ get_or next j 0 = get_or-set_other next m j k 0 other in
      λ t. steps_from j (same t) steps ∷ queues_at-other (suc j) n m k next (omega arith) t

  -- a session's steps from another number on
  pub queues_at-set : (j n i m k : ℕ) (next : List ℕ) → i < n → j + i ≡ m → m < length next → queues_at j n (set next m k) steps
      ≡ set (queues_at j n next steps) i (steps_from m k steps)
  queues_at-set j zero i m k next h e fits = absurd (omega arith)
  queues_at-set j (suc n) zero m k next h e fits =
      let same : j ≡ m = omega arith in
      let at : get_or (set next m k) j 0 ≡ k = ap (λ s. get_or (set next m k) s 0) same ∙ get_or-set_same next m k 0 fits in
      λ t. steps_from (same t) (at t) steps ∷ queues_at-other (suc j) n m k next (omega arith) t
  queues_at-set j (suc n) (suc i) m k next h e fits =
      let other : j ≢ m = omega arith in
      let same : get_or (set next m k) j 0 ≡ get_or next j 0 = get_or-set_other next m j k 0 other in
      λ t. steps_from j (same t) steps ∷ queues_at-set (suc j) n i m k next (omega arith) (omega arith) fits t

  -- at the start all steps are still to be sent
  pub queues_at-start : (j n : ℕ) (next : List ℕ) → ((i : ℕ) → get_or next i 0 ≡ 0) → queues_at j n next steps ≡ queues_from j n steps
  queues_at-start j zero next h = refl
  queues_at-start j (suc n) next h = λ t. steps_from j (h j t) steps ∷ queues_at-start (suc j) n next h t

  -- a letter of no session takes nothing
  pub line-no_session : (n i : ℕ) (next : List ℕ) (word : Word) → n ≤ i → line (queues_at 0 n next steps) (i ∷ word) ≡ line (queues_at 0 n next steps) word
  line-no_session n i next word h = line-skips (queues_at 0 n next steps) i word (get_or-queues_at-past n i next h)

  -- nor does one of a session that has sent all its steps
  pub line-none_left : (n i : ℕ) (next : List ℕ) (word : Word) → i < n → steps_from i (get_or next i 0) steps ≡ [] → line (queues_at 0 n next steps) (i ∷ word)
      ≡ line (queues_at 0 n next steps) word
  line-none_left n i next word h e = line-skips (queues_at 0 n next steps) i word (get_or-queues_at 0 n i i next h (omega arith) ∙ e)

  -- a letter takes its session's next step
  pub line-next : (n i k : ℕ) (next : List ℕ) (word : Word) → i < n → i < length next → steps_from i (get_or next i 0) steps ≡ k ∷ steps_from i (k + 1) steps
      → line (queues_at 0 n next steps) (i ∷ word) ≡ k ∷ line (queues_at 0 n (set next i (k + 1)) steps) word
  line-next n i k next word h fits e =
      line-takes (queues_at 0 n next steps) i k (steps_from i (k + 1) steps) word (get_or-queues_at 0 n i i next h (omega arith) ∙ e)
      ∙ ap (λ q. k ∷ line q word) (sym (queues_at-set 0 n i i (k + 1) next h (omega arith) fits))

pub eight-zeros : (i : ℕ) → ◌≡◌ {A = ℕ} (get_or (0 ∷ 0 ∷ 0 ∷ 0 ∷ 0 ∷ 0 ∷ 0 ∷ 0 ∷ []) i 0) 0
eight-zeros zero = refl
eight-zeros (suc zero) = refl
eight-zeros (suc (suc zero)) = refl
eight-zeros (suc (suc (suc zero))) = refl
eight-zeros (suc (suc (suc (suc zero)))) = refl
eight-zeros (suc (suc (suc (suc (suc zero))))) = refl
eight-zeros (suc (suc (suc (suc (suc (suc zero)))))) = refl
eight-zeros (suc (suc (suc (suc (suc (suc (suc zero))))))) = refl
eight-zeros (suc (suc (suc (suc (suc (suc (suc (suc i)))))))) = refl

-- the next letter, where it takes a step
pub walk-takes : (front whole : List ℕ) (q q' : Queues) (word : Word) (i k : ℕ) → i < length word
    → ((rest : Word) → line q (get_or word i 0 ∷ rest) ≡ k ∷ line q' rest)
    → front ++ line q (drop i word) ≡ whole → (front ++ k ∷ []) ++ line q' (drop (i + 1) word) ≡ whole
walk-takes front whole q q' word i k h step so_far =
    rw (append_assoc, add-one, ← (step (drop (suc i) word)), ← (drop-cons word i 0 h)) so_far

-- and where it takes none
pub walk-skips : (front whole : List ℕ) (q q' : Queues) (word : Word) (i : ℕ) → i < length word
    → ((rest : Word) → line q (get_or word i 0 ∷ rest) ≡ line q' rest)
    → front ++ line q (drop i word) ≡ whole → front ++ line q' (drop (i + 1) word) ≡ whole
walk-skips front whole q q' word i h step so_far =
    rw (add-one, ← (step (drop (suc i) word)), ← (drop-cons word i 0 h)) so_far
