-- The letters of a word and the steps of its line.
use Rattle.std.proofs.Common.{◌≡◌, ◌≢◌, refl, sym, ap, ◌∙◌, ℕ, zero, suc, ◌<◌, Bool, true, false, not, ◌&&◌, ◌==◌, nat_lt, List, [], ◌∷◌, length, take, set}
use Rattle.std.proofs.Common.{get_or, Option, Some, None, option_map, is_some, cond, ◌≤◌, ◌⊎◌, arith, eqb-true, ltb-true, ⊎_elim, get_or-set_other}
use Rattle.std.proofs.lemmas.List.{get_or_past}
use Rattle.perm_ranks.specs.Words.{Word, all_words, total, word_at}
use Rattle.perm_ranks.specs.Swapped.{exchanged}
use Rattle.perm_ranks.proofs.WordLemmas.{Takes, done, takes, words-take, each-at}
use Rattle.bound_specs.specs.Spec.{Step, no_step, Spec, Queues, line, line_by, counts_of, queues_of}
use Rattle.bound_specs.proofs.WalkLemmas.{get_or-counts, counts-set}
use Rattle.machine_model.specs.World.{World, send, send_all}
use Rattle.machine_model.proofs.Basics.{known}
use Rattle.rank_facts.specs.Quiet.{is_quiet}
use Rattle.rank_facts.specs.Swap.{quiet_heads, quiet_at, falls_at, word_of, are_quiet_at}
use Rattle.rank_facts.proofs.Swaps.{line-at, line-two}

-- each letter of the word finds a step of its session
abbrev pub Served : Queues → Word → Type 0
Served q [] = Unit {0}
Served q (a ∷ word) = (x : ℕ) × ((xs : List ℕ) × ((get_or q a [] ≡ x ∷ xs) × Served (set q a xs) word))

takes-served : (n : ℕ) (counts : List ℕ) (v : Word) → Takes n counts v → (q : Queues) → counts_of q ≡ counts → Served q v
takes-served _ counts _ done q e = tt
takes-served _ counts _ (takes {n = n} {i = i} {c = c} {v = v} lt is t) q e = at (get_or q i []) refl (λ p f. takes-served n (set counts i c) v t p f)
  where
    many : length (get_or q i []) ≡ suc c
    many = sym (get_or-counts q i) ∙ ap (λ ns. get_or ns i 0) e ∙ is

    at : (l : List ℕ) → get_or q i [] ≡ l → ((p : Queues) → counts_of p ≡ set counts i c → Served p v) → Served q (i ∷ v)
    at [] h rec = absurd (let bad : 0 ≡ suc c = sym (ap length h) ∙ many in omega (arith, bad))
    at (x ∷ xs) h rec =
        let left : length xs ≡ c = (let e : suc (length xs) ≡ suc c = sym (ap length h) ∙ many in omega (arith, e)) in
        (x, (xs, (h, rec (set q i xs) (counts-set q i xs ∙ (λ k. set (e k) i (left k))))))

-- the word of a rank finds all its steps
rank-served : (q : Queues) (r : ℕ) → r < length (all_words (counts_of q)) → Served q (word_at (counts_of q) r)
rank-served q r lt =
    takes-served (total (counts_of q)) (counts_of q) (word_at (counts_of q) r)
    (each-at (Takes (total (counts_of q)) (counts_of q)) (all_words (counts_of q)) r lt (words-take (total (counts_of q)) (counts_of q))) q refl

pub is_some-map : {A B : Type 0} (f : A → B) (o : Option A) → is_some (option_map f o) ≡ is_some o
is_some-map f None = refl
is_some-map f (Some u) = refl

falls-differ : (a b : ℕ) (word : Word) → falls_at zero (a ∷ b ∷ word) ≡ true → a ≢ b
falls-differ a b word f e = at (nat_lt b a) refl f
  where
    at : (t : Bool) → nat_lt b a ≡ t → is_some (cond t (Some (b ∷ a ∷ word)) None) ≡ true → ⊥
    at true is h = let lt : b < a = ltb-true b a is in omega (arith, e)
    at false is h = cc

-- the pair of steps at k of a line, in the world after those before them
abbrev pub quiet_in_line : List Step → World → List ℕ → ℕ → Bool
quiet_in_line steps w ks k = is_quiet (send_all steps w (take k ks)) (get_or steps (get_or ks k 0) no_step) (get_or steps (get_or ks (suc k) 0) no_step)

-- letters that fall are exchanged by the steps of the word's line
pub letters-steps : (steps : List Step) (w : World) (q : Queues) (k : ℕ) (word : Word) → Served q word → falls_at k word ≡ true
    → quiet_at steps w q k word ≡ quiet_in_line steps w (line q word) k
letters-steps steps w q k [] served f = absurd (none k f)
  where
    none : (k : ℕ) → falls_at k [] ≡ true → ⊥
    none zero h = cc
    none (suc k) h = cc
letters-steps steps w q zero (a ∷ []) served f = cc
letters-steps steps w q zero (a ∷ b ∷ word) served f = at (get_or q b []) refl
  where
    x : ℕ
    x = served.0

    xs : List ℕ
    xs = served.1.0

    ne : a ≢ b
    ne = falls-differ a b word f

    same : (a == b) ≡ false
    same = ⊎_elim (λ h. absurd (ne (eqb-true a b h))) (λ h. h) (known (a == b))

    -- the second letter's queue is as it was
    there : get_or (set q a xs) b [] ≡ get_or q b []
    there = get_or-set_other q a b xs [] (λ e. ne (sym e))

    at : (l : List ℕ) → get_or q b [] ≡ l → (not (a == b) && quiet_heads steps w (get_or q a []) (get_or q b []))
        ≡ quiet_in_line steps w (line q (a ∷ b ∷ word)) zero
    at [] h = absurd (let bad : [] ≡ served.1.1.1.0 ∷ served.1.1.1.1.0 = sym h ∙ sym there ∙ served.1.1.1.1.1.0 in cc)
    at (y ∷ ys) h =
        (λ i. not (same i) && quiet_heads steps w (served.1.1.0 i) (h i))
        ∙ sym (ap (λ ks. quiet_in_line steps w ks zero) (line-two q a b word x y xs ys ne served.1.1.0 h))
letters-steps steps w q (suc k) (a ∷ word) served f =
    let x : ℕ = served.0 in
    let xs : List ℕ = served.1.0 in
    let falls : falls_at k word ≡ true = sym (is_some-map (λ v. a ∷ v) (exchanged k word)) ∙ f in
    ap (λ (l : List ℕ). let b : Bool = elim l [ [] ↦ quiet_at steps w q k word | n ∷ ns ↦ quiet_at steps (send steps w n) (set q a ns) k word ] in
    b) served.1.1.0
    ∙ letters-steps steps (send steps w x) (set q a xs) k word served.1.1.1 falls
    ∙ sym (ap (λ ks. quiet_in_line steps w ks (suc k)) (line-at q a word (x ∷ xs) served.1.1.0))

-- a word that falls is one of the list
falls-in-range : (q : Queues) (r k : ℕ) → falls_at k (word_at (counts_of q) r) ≡ true → r < length (all_words (counts_of q))
falls-in-range q r k f =
    let ws : List Word = all_words (counts_of q) in
    let cases : (r < length ws) ⊎ (length ws ≤ r) = grind arith in
    ⊎_elim (λ h. h) (λ h. absurd (none k (sym (ap (falls_at k) (get_or_past ws r [] h)) ∙ f))) cases
  where
    none : (k : ℕ) → falls_at k [] ≡ true → ⊥
    none zero h = cc
    none (suc k) h = cc

pub spec-letters : (spec : Spec) (w : World) (r k : ℕ) → spec.lines ≡ [] → falls_at k (word_of spec r) ≡ true
    → quiet_at spec.steps w (queues_of spec) k (word_of spec r) ≡ are_quiet_at spec w r k
spec-letters spec w r k none f =
    letters-steps spec.steps w (queues_of spec) k (word_of spec r) (rank-served (queues_of spec) r (falls-in-range (queues_of spec) r k f)) f
    ∙ ap (λ ls. quiet_in_line spec.steps w (line_by ls (queues_of spec) r) k) (sym none)
