-- Whether a word falls at a place, told by the sessions of its line's steps.
use Rattle.std.proofs.Common.{◌≡◌, ◌≢◌, refl, sym, ap, ◌∙◌, subst, ℕ, zero, suc, ◌+◌, ◌<◌, ◌≤◌, Bool, true, false, cond, ◌==◌, nat_lt, List, [], ◌∷◌}
use Rattle.std.proofs.Common.{length, set, drop, get_or, Some, None, is_some, arith, eqb-true, eq-eqb}
use Rattle.std.proofs.lemmas.Bool.{false≢true}
use Rattle.std.proofs.lemmas.List.{get_or-set_same, get_or-set_other}
use Rattle.perm_ranks.specs.Words.{Word, total, all_words}
use Rattle.perm_ranks.specs.Swapped.{exchanged}
use Rattle.perm_ranks.proofs.WordLemmas.{Takes, done, takes, takes-length, words-take, each-at}
use Rattle.bound_specs.specs.Spec.{Step, Spec, Queues, no_step, line, line_by, line_of, ranks, counts_of, queues_of}
use Rattle.bound_specs.proofs.WalkLemmas.{get_or-counts, counts-set}
use Rattle.rank_facts.specs.Swap.{falls_at, word_of}
use Rattle.rank_facts.proofs.Swaps.{line-at}
use Rattle.rank_facts.proofs.Lines.{is_some-map}
use Rattle.step_reducer.proofs.Tables.{step-owned, some-inside}
use Rattle.step_reducer.proofs.Partings.{line-length}
use Rattle.step_reducer.proofs.Prefixes.{falls-short}
use Rattle.book_audit.proofs.Tests.{in-words}

-- letters that stand at a place and behind it fall where the second is the smaller one
falls-letters : (k : ℕ) (v : Word) → suc k < length v → falls_at k v ≡ nat_lt (get_or v (suc k) 0) (get_or v k 0)
falls-letters zero [] lt = absurd (omega (arith, lt))
falls-letters zero (a ∷ []) lt = absurd (omega (arith, lt))
falls-letters zero (a ∷ b ∷ v) lt = at (nat_lt b a)
  where
    at : (t : Bool) → is_some (cond t (Some (b ∷ a ∷ v)) None) ≡ t
    at true = refl
    at false = refl
falls-letters (suc k) [] lt = absurd (omega (arith, lt))
falls-letters (suc k) (a ∷ v) lt = is_some-map (λ u. a ∷ u) (exchanged k v) ∙ falls-letters k v (omega (arith, lt))

-- ---- the letter of a word is the session of its line's step

-- what is still to be sent of a session are steps of it
abbrev Owned : List Step → Queues → Type 0
Owned steps q = (a n m : ℕ) (ks : List ℕ) → drop n (get_or q a []) ≡ m ∷ ks → (get_or steps m no_step).session ≡ a

abbrev pub session_at : List Step → List ℕ → ℕ → ℕ
session_at steps l k = (get_or steps (get_or l k 0) no_step).session

owned-set : (steps : List Step) (q : Queues) (i x : ℕ) (xs : List ℕ) → get_or q i [] ≡ x ∷ xs → Owned steps q → Owned steps (set q i xs)
owned-set steps q i x xs is owned = λ a n m ks e. at a n m ks e (a == i) refl
  where
    inside : i < length q
    inside = some-inside q i (subst (λ (l : List ℕ). 0 < length l) (sym is) (omega arith))

    same : (a n m : ℕ) (ks : List ℕ) → a ≡ i → drop n (get_or (set q i xs) a []) ≡ m ∷ ks → (get_or steps m no_step).session ≡ a
    same a n m ks here e =
        let left : drop n xs ≡ m ∷ ks = sym (ap (drop n) (ap (λ j. get_or (set q i xs) j []) here ∙ get_or-set_same q i xs [] inside)) ∙ e in
        owned i (suc n) m ks (ap (drop (suc n)) is ∙ left) ∙ sym here

    at : (a n m : ℕ) (ks : List ℕ) → drop n (get_or (set q i xs) a []) ≡ m ∷ ks → (b : Bool) → (a == i) ≡ b → (get_or steps m no_step).session ≡ a
    at a n m ks e true h = same a n m ks (eqb-true a i h) e
    at a n m ks e false h =
        let apart : a ≢ i = λ here. false≢true (sym h ∙ eq-eqb a i here) in
        owned a n m ks (sym (ap (drop n) (get_or-set_other q i a xs [] apart)) ∙ e)

line-letters : (steps : List Step) (n : ℕ) (counts : List ℕ) (v : Word) → Takes n counts v → (q : Queues) → counts_of q ≡ counts → Owned steps q
    → (k : ℕ) → k < n → session_at steps (line q v) k ≡ get_or v k 0
line-letters steps _ counts _ done q e owned k lt = absurd (omega (arith, lt))
line-letters steps _ counts _ (takes {n = n} {i = i} {c = c} {v = v} lt is t) q e owned k low =
    at (get_or q i []) refl (λ p f o j below. line-letters steps n (set counts i c) v t p f o j below) k low
  where
    many : length (get_or q i []) ≡ suc c
    many = sym (get_or-counts q i) ∙ ap (λ ns. get_or ns i 0) e ∙ is

    at : (l : List ℕ) → get_or q i [] ≡ l
        → ((p : Queues) → counts_of p ≡ set counts i c → Owned steps p → (j : ℕ) → j < n → session_at steps (line p v) j ≡ get_or v j 0)
        → (k : ℕ) → k < suc n → session_at steps (line q (i ∷ v)) k ≡ get_or (i ∷ v) k 0
    at [] h rec k low = absurd (let bad : 0 ≡ suc c = sym (ap length h) ∙ many in omega (arith, bad))
    at (x ∷ xs) h rec zero low = ap (λ l. session_at steps l 0) (line-at q i v (x ∷ xs) h) ∙ owned i 0 x xs h
    at (x ∷ xs) h rec (suc j) low =
        let left : length xs ≡ c = (let f : suc (length xs) ≡ suc c = sym (ap length h) ∙ many in omega (arith, f)) in
        ap (λ l. session_at steps l (suc j)) (line-at q i v (x ∷ xs) h)
        ∙ rec (set q i xs) (counts-set q i xs ∙ (λ k. set (e k) i (left k))) (owned-set steps q i x xs h owned) j (omega (arith, low))

-- ---- a spec without lines

module _ (spec : Spec) (r : ℕ) (words : spec.lines ≡ []) (has : r < ranks spec) where
  abbrev counts : List ℕ
  counts = counts_of (queues_of spec)

  within : r < length (all_words counts)
  within = in-words spec r words has

  word-takes : Takes (total counts) counts (word_of spec r)
  word-takes = each-at (Takes (total counts) counts) (all_words counts) r within (words-take (total counts) counts)

  letter-is : (k : ℕ) → k < total counts → session_at spec.steps (line_of spec r) k ≡ get_or (word_of spec r) k 0
  letter-is k lt =
      ap (λ ls. session_at spec.steps (line_by ls (queues_of spec) r) k) words
      ∙ line-letters spec.steps (total counts) counts (word_of spec r) word-takes (queues_of spec) refl (λ a n m ks e. step-owned spec a n m ks e) k lt

  -- the word falls where the step behind is of a lower session
  pub falls-sessions : (k : ℕ) → suc k < length (line_of spec r)
      → nat_lt (session_at spec.steps (line_of spec r) (suc k)) (session_at spec.steps (line_of spec r) k) ≡ falls_at k (word_of spec r)
  falls-sessions k lt =
      let long = line-length spec words r within in
      let letters = takes-length (total counts) counts (word_of spec r) word-takes in
      (λ i. nat_lt (letter-is (suc k) (omega (arith, lt, long)) i) (letter-is k (omega (arith, lt, long)) i))
      ∙ sym (falls-letters k (word_of spec r) (omega (arith, lt, long, letters)))

  -- and not at the last letter or past it
  pub falls-nowhere : (k : ℕ) → length (line_of spec r) ≤ k + 1 → false ≡ falls_at k (word_of spec r)
  falls-nowhere k le =
      let long = line-length spec words r within in
      let letters = takes-length (total counts) counts (word_of spec r) word-takes in
      sym (falls-short k (word_of spec r) (omega (arith, le, long, letters)))
