-- From the words that share some letters to those that share one more.
use Rattle.std.proofs.Common.{◌≡◌, ◌≢◌, refl, sym, ap, ◌∙◌, subst, ℕ, zero, suc, ◌+◌, ◌-◌, ◌<◌, ◌≤◌, Bool, true, false, cond, not, ◌&&◌, ◌==◌, nat_lt, List, []}
use Rattle.std.proofs.Common.{◌∷◌, ◌++◌, length, drop, set, get_or, Some, None, is_some, ◌⊎◌, ⊎_elim, arith, append_assoc, length-append, get_or-set_other}
use Rattle.std.proofs.Common.{eqb-true, ltb-true}
use Rattle.perm_ranks.specs.Words.{Word}
use Rattle.perm_ranks.specs.Counting.{taken}
use Rattle.perm_ranks.specs.Blocks.{Block, narrowed, IsBlockOf}
use Rattle.perm_ranks.proofs.BlockLemmas.{block-narrowed}
use Rattle.bound_specs.specs.Spec.{Step, Queues, line, counts_of, queues_of}
use Rattle.bound_specs.proofs.WalkLemmas.{get_or-counts}
use Rattle.machine_model.specs.World.{World, send, send_all}
use Rattle.rank_facts.specs.Swap.{quiet_heads, quiet_at, falls_at}
use Rattle.step_reducer.specs.Reduced.{Tour, rest_after, world_after, has_swap, is_pair, LeftOf, IsPlace}
use Rattle.step_reducer.proofs.Prefixes.{past, past-is, falls-behind, quiet-behind}

-- ---- one letter more

abbrev Rests : Queues → Word → ℕ → ℕ → List ℕ → Type 0
Rests q p a k ks = get_or (rest_after q p) a [] ≡ k ∷ ks

rest-push : (q : Queues) (p : Word) (a k : ℕ) (ks : List ℕ) → Rests q p a k ks → rest_after q (p ++ a ∷ []) ≡ set (rest_after q p) a ks
rest-push q [] a k ks e = at (get_or q a []) e
  where
    at : (x : List ℕ) → x ≡ k ∷ ks → (let r : Queues = elim x [ [] ↦ q | n ∷ ns ↦ set q a ns ] in r) ≡ set q a ks
    at [] h = cc
    at (n ∷ ns) h = let same : ns ≡ ks = cc in ap (set q a) same
rest-push q (b ∷ p) a k ks e = at (get_or q b []) (rest-push q p a k ks) (λ n ns. rest-push (set q b ns) p a k ks) e
  where
    at : (x : List ℕ) → (Rests q p a k ks → rest_after q (p ++ a ∷ []) ≡ set (rest_after q p) a ks)
        → ((n : ℕ) (ns : List ℕ) → Rests (set q b ns) p a k ks → rest_after (set q b ns) (p ++ a ∷ []) ≡ set (rest_after (set q b ns) p) a ks)
        → get_or (let r : Queues = elim x [ [] ↦ rest_after q p | n ∷ ns ↦ rest_after (set q b ns) p ] in r) a [] ≡ k ∷ ks
        → (let r : Queues = elim x [ [] ↦ rest_after q (p ++ a ∷ []) | n ∷ ns ↦ rest_after (set q b ns) (p ++ a ∷ []) ] in r)
        ≡ set (let r : Queues = elim x [ [] ↦ rest_after q p | n ∷ ns ↦ rest_after (set q b ns) p ] in r) a ks
    at [] here there h = here h
    at (n ∷ ns) here there h = there n ns h

line-push : (q : Queues) (p : Word) (a k : ℕ) (ks : List ℕ) → Rests q p a k ks → line q (p ++ a ∷ []) ≡ line q p ++ k ∷ []
line-push q [] a k ks e = at (get_or q a []) e
  where
    at : (x : List ℕ) → x ≡ k ∷ ks → (let r : List ℕ = elim x [ [] ↦ [] | n ∷ ns ↦ n ∷ [] ] in r) ≡ k ∷ []
    at [] h = cc
    at (n ∷ ns) h = let same : n ≡ k = cc in ap (λ m. m ∷ []) same
line-push q (b ∷ p) a k ks e = at (get_or q b []) (line-push q p a k ks) (λ n ns. line-push (set q b ns) p a k ks) e
  where
    at : (x : List ℕ) → (Rests q p a k ks → line q (p ++ a ∷ []) ≡ line q p ++ k ∷ [])
        → ((n : ℕ) (ns : List ℕ) → Rests (set q b ns) p a k ks → line (set q b ns) (p ++ a ∷ []) ≡ line (set q b ns) p ++ k ∷ [])
        → get_or (let r : Queues = elim x [ [] ↦ rest_after q p | n ∷ ns ↦ rest_after (set q b ns) p ] in r) a [] ≡ k ∷ ks
        → (let r : List ℕ = elim x [ [] ↦ line q (p ++ a ∷ []) | n ∷ ns ↦ n ∷ line (set q b ns) (p ++ a ∷ []) ] in r)
        ≡ (let r : List ℕ = elim x [ [] ↦ line q p | n ∷ ns ↦ n ∷ line (set q b ns) p ] in r) ++ k ∷ []
    at [] here there h = here h
    at (n ∷ ns) here there h = ap (λ l. n ∷ l) (there n ns h)

pub send_all-push : (steps : List Step) (w : World) (xs : List ℕ) (k : ℕ) → send_all steps w (xs ++ k ∷ []) ≡ send steps (send_all steps w xs) k
send_all-push steps w [] k = refl
send_all-push steps w (x ∷ xs) k = send_all-push steps (send steps w x) xs k

-- ---- exchanges

pub has-swap-behind : (t : Tour) (p v : Word) (k : ℕ)
    → has_swap t (past p k) (p ++ v) ≡ (t.reduce && (falls_at k v && quiet_at t.spec.steps (world_after t p) (rest_after (queues_of t.spec) p) k v))
has-swap-behind t p v k = λ i. t.reduce && (falls-behind p v k i && quiet-behind t.spec.steps v k t.world (queues_of t.spec) p i)

not-same : (a b : ℕ) → nat_lt b a ≡ true → not (a == b) ≡ true
not-same a b lt = at (a == b) refl
  where
    at : (x : Bool) → (a == b) ≡ x → not x ≡ true
    at true e = absurd (let less : b < a = ltb-true b a lt in let same : a ≡ b = eqb-true a b e in omega arith)
    at false e = refl

pair-is : (reduce : Bool) (steps : List Step) (w : World) (q : Queues) (a b : ℕ) (v : Word)
    → (reduce && (falls_at 0 (a ∷ b ∷ v) && quiet_at steps w q 0 (a ∷ b ∷ v))) ≡ is_pair reduce steps w q a b
pair-is reduce steps w q a b v = at (nat_lt b a) refl
  where
    at : (x : Bool) → nat_lt b a ≡ x → (reduce && (is_some (cond x (Some (b ∷ a ∷ v)) None) &&
        (not (a == b) && quiet_heads steps w (get_or q a []) (get_or q b [])))) ≡ (reduce && (x && quiet_heads steps w (get_or q a []) (get_or q b [])))
    at true e = ap (λ y. reduce && (y && quiet_heads steps w (get_or q a []) (get_or q b []))) (not-same a b e)
    at false e = refl

-- the last letter and one more
pub last-pair : (t : Tour) (p : Word) (a b : ℕ) (v : Word) → has_swap t (length p) ((p ++ a ∷ []) ++ b ∷ v) ≡ is_pair t.reduce t.spec.steps (world_after t p)
    (rest_after (queues_of t.spec) p) a b
last-pair t p a b v =
    let same : length p ≡ past p 0 = omega (arith, past-is p 0) in
    (λ i. has_swap t (same i) (append_assoc p (a ∷ []) (b ∷ v) i))
    ∙ has-swap-behind t p (a ∷ b ∷ v) 0
    ∙ pair-is t.reduce t.spec.steps (world_after t p) (rest_after (queues_of t.spec) p) a b v

-- ---- what is left

drop-next : (xs : List ℕ) (n k : ℕ) (ks : List ℕ) → drop n xs ≡ k ∷ ks → drop (suc n) xs ≡ ks
drop-next [] zero k ks e = cc
drop-next [] (suc n) k ks e = cc
drop-next (x ∷ xs) zero k ks e = cc
drop-next (x ∷ xs) (suc n) k ks e = drop-next xs n k ks e

get-set : (q : Queues) (a k : ℕ) (ks ns : List ℕ) → get_or q a [] ≡ k ∷ ks → get_or (set q a ns) a [] ≡ ns
get-set [] zero k ks ns e = cc
get-set [] (suc a) k ks ns e = cc
get-set (x ∷ q) zero k ks ns e = refl
get-set (x ∷ q) (suc a) k ks ns e = get-set q a k ks ns e

get-taken : (counts : List ℕ) (a n : ℕ) → 0 < get_or counts a 0 → get_or (set counts a n) a 0 ≡ n
get-taken [] a n some = absurd (omega arith)
get-taken (x ∷ counts) zero n some = refl
get-taken (x ∷ counts) (suc a) n some = get-taken counts a n some

left-push : (q : Queues) (counts : List ℕ) (p : Word) (a k : ℕ) (ks : List ℕ) → 0 < get_or counts a 0 → Rests q p a k ks
    → ((b : ℕ) → LeftOf (get_or q b []) (get_or counts b 0) (get_or (rest_after q p) b []))
    → (b : ℕ) → LeftOf (get_or q b []) (get_or (taken counts a) b 0) (get_or (rest_after q (p ++ a ∷ [])) b [])
left-push q counts p a k ks some rests left b = subst (λ r. LeftOf (get_or q b []) (get_or (taken counts a) b 0) (get_or r b []))
    (sym (rest-push q p a k ks rests)) (⊎_elim same other cases)
  where
    cases : (a ≡ b) ⊎ (a ≢ b)
    cases = grind arith

    same : a ≡ b → LeftOf (get_or q b []) (get_or (taken counts a) b 0) (get_or (set (rest_after q p) a ks) b [])
    same e =
        let l = left a in
        let n = length (get_or q a []) - get_or counts a 0 in
        let one : length (get_or q a []) - (get_or counts a 0 - 1) ≡ suc n = (let le = l.0 in omega arith) in
        let tail : drop (suc n) (get_or q a []) ≡ ks = drop-next (get_or q a []) n k ks (sym l.1 ∙ rests) in
        let few : get_or counts a 0 - 1 ≤ length (get_or q a []) = (let le = l.0 in omega arith) in
        let at_a : LeftOf (get_or q a []) (get_or counts a 0 - 1) ks = (few, sym tail ∙ ap (λ m. drop m (get_or q a [])) (sym one)) in
        subst (λ c. LeftOf (get_or q c []) (get_or (taken counts a) c 0) (get_or (set (rest_after q p) a ks) c [])) e
        (subst (λ m. LeftOf (get_or q a []) m (get_or (set (rest_after q p) a ks) a [])) (sym (get-taken counts a (get_or counts a 0 - 1) some))
        (subst (LeftOf (get_or q a []) (get_or counts a 0 - 1)) (sym (get-set (rest_after q p) a k ks ks rests)) at_a))

    other : a ≢ b → LeftOf (get_or q b []) (get_or (taken counts a) b 0) (get_or (set (rest_after q p) a ks) b [])
    other ne =
        subst (λ m. LeftOf (get_or q b []) m (get_or (set (rest_after q p) a ks) b []))
        (sym (get_or-set_other counts a b (get_or counts a 0 - 1) 0 (λ e. ne (sym e))))
        (subst (LeftOf (get_or q b []) (get_or counts b 0)) (sym (get_or-set_other (rest_after q p) a b ks [] (λ e. ne (sym e)))) (left b))

-- ---- places

pub place-first : (t : Tour) (block : Block) → IsBlockOf (counts_of (queues_of t.spec)) [] block → block.left ≡ counts_of (queues_of t.spec)
    → IsPlace t [] block t.world []
place-first t block is all = record {
  ranks = is;
  world_is = refl;
  left = λ a. (let same : get_or block.left a 0 ≡ length (get_or (queues_of t.spec) a []) = ap (λ c. get_or c a 0) all ∙ get_or-counts (queues_of t.spec) a in
      let none : length (get_or (queues_of t.spec) a []) - get_or block.left a 0 ≡ 0 = omega arith in
      let few : get_or block.left a 0 ≤ length (get_or (queues_of t.spec) a []) = omega arith in
      (few, ap (λ n. drop n (get_or (queues_of t.spec) a [])) (sym none)));
  some = λ a e. cc;
  settled = λ k rest le. absurd (omega arith);
  pairs = λ k a rest e. absurd (omega arith);
}

pub place-next : (t : Tour) (p : Word) (block : Block) (world next : World) (swaps more : List Bool) (a k : ℕ) (ks : List ℕ)
    → IsPlace t p block world swaps → 0 < get_or block.left a 0 → get_or swaps a false ≡ false → Rests (queues_of t.spec) p a k ks
    → next ≡ send t.spec.steps world k
    → ((b : ℕ) → get_or more b false ≡ is_pair t.reduce t.spec.steps world (rest_after (queues_of t.spec) p) a b)
    → IsPlace t (p ++ a ∷ []) (narrowed block a) next more
place-next t p block world next swaps more a k ks is some unlisted rests sent listed = record {
  ranks = block-narrowed (counts_of q) p block a some is.ranks;
  world_is = sent ∙ ap (λ w. send t.spec.steps w k) is.world_is
      ∙ sym (ap (send_all t.spec.steps t.world) (line-push q p a k ks rests) ∙ send_all-push t.spec.steps t.world (line q p) k);
  left = left-push q block.left p a k ks some rests is.left;
  some = λ b e. (let one = length-append p (a ∷ []) in omega (arith, one));
  settled = settled;
  pairs = λ j b rest e. (let one = length-append p (a ∷ []) in let same : j ≡ length p = omega (arith, one) in
      ap (λ m. has_swap t m ((p ++ a ∷ []) ++ b ∷ rest)) same ∙ last-pair t p a b rest
      ∙ ap (λ w. is_pair t.reduce t.spec.steps w (rest_after q p) a b) (sym is.world_is) ∙ sym (listed b));
}
  where
    q : Queues
    q = queues_of t.spec

    settled : (j : ℕ) (rest : Word) → j + 2 ≤ length (p ++ a ∷ []) → has_swap t j ((p ++ a ∷ []) ++ rest) ≡ false
    settled j rest le =
        let one = length-append p (a ∷ []) in
        let cases : (j + 2 ≤ length p) ⊎ (suc j ≡ length p) = grind (arith, one) in
        ap (has_swap t j) (append_assoc p (a ∷ []) rest) ∙ ⊎_elim (λ h. is.settled j (a ∷ rest) h) (λ h. is.pairs j a rest h ∙ unlisted) cases
