-- Whether the letters at a place may be exchanged depends on them and on those before them alone.
use Rattle.std.proofs.Common.{◌≡◌, refl, sym, ◌∙◌, ℕ, zero, suc, ◌+◌, ◌≤◌, Bool, true, false, cond, nat_lt, List, [], ◌∷◌, ◌++◌, length, set, get_or, Some}
use Rattle.std.proofs.Common.{None, is_some, arith}
use Rattle.perm_ranks.specs.Words.{Word}
use Rattle.perm_ranks.specs.Swapped.{exchanged}
use Rattle.bound_specs.specs.Spec.{Step, Queues, line}
use Rattle.machine_model.specs.World.{World, send, send_all}
use Rattle.rank_facts.specs.Swap.{quiet_at, falls_at}
use Rattle.rank_facts.proofs.Lines.{is_some-map}
use Rattle.step_reducer.specs.Reduced.{rest_after}

-- ---- what lies in front of the place

-- the place that is k letters behind the word
abbrev pub past : Word → ℕ → ℕ
past [] k = k
past (a ∷ p) k = suc (past p k)

pub past-is : (p : Word) (k : ℕ) → past p k ≡ length p + k
past-is [] k = omega arith
past-is (a ∷ p) k = let rest = past-is p k in omega (arith, rest)

pub falls-behind : (p v : Word) (k : ℕ) → falls_at (past p k) (p ++ v) ≡ falls_at k v
falls-behind [] v k = refl
falls-behind (a ∷ p) v k = is_some-map (λ u. a ∷ u) (exchanged (past p k) (p ++ v)) ∙ falls-behind p v k

module _ (steps : List Step) (v : Word) (k : ℕ) where
  abbrev Behind : World → Queues → Word → Type 0
  Behind w q p = quiet_at steps w q (past p k) (p ++ v) ≡ quiet_at steps (send_all steps w (line q p)) (rest_after q p) k v

  -- the place is sought behind the letters, in the world after them
  pub quiet-behind : (w : World) (q : Queues) (p : Word) → Behind w q p
  quiet-behind w q [] = refl
  quiet-behind w q (a ∷ p) = at (get_or q a []) (quiet-behind w q p) (λ n ns. quiet-behind (send steps w n) (set q a ns) p)
    where
      at : (x : List ℕ) → Behind w q p → ((n : ℕ) (ns : List ℕ) → Behind (send steps w n) (set q a ns) p)
          → (let b : Bool = elim x [
            | [] ↦ quiet_at steps w q (past p k) (p ++ v)
            | n ∷ ns ↦ quiet_at steps (send steps w n) (set q a ns) (past p k)
                (p ++ v)
          ] in b)
          ≡ (let l : List ℕ = elim x [ [] ↦ line q p | n ∷ ns ↦ n ∷ line (set q a ns) p ] in let r : Queues =
          elim x [ [] ↦ rest_after q p | n ∷ ns ↦ rest_after (set q a ns) p ] in quiet_at steps (send_all steps w l) r k v)
      at [] here there = here
      at (n ∷ ns) here there = there n ns

-- ---- what lies behind it

pub falls-front : (k : ℕ) (p v u : Word) → k + 2 ≤ length p → falls_at k (p ++ v) ≡ falls_at k (p ++ u)
falls-front zero [] v u le = absurd (omega arith)
falls-front zero (a ∷ []) v u le = absurd (omega arith)
falls-front zero (a ∷ b ∷ p) v u le = at (nat_lt b a)
  where
    at : (t : Bool) → is_some (cond t (Some (b ∷ a ∷ (p ++ v))) None) ≡ is_some (cond t (Some (b ∷ a ∷ (p ++ u))) None)
    at true = refl
    at false = refl
falls-front (suc k) [] v u le = absurd (omega arith)
falls-front (suc k) (a ∷ p) v u le = is_some-map (λ x. a ∷ x) (exchanged k (p ++ v)) ∙ falls-front k p v u (omega arith)
    ∙ sym (is_some-map (λ x. a ∷ x) (exchanged k (p ++ u)))

pub quiet-front : (steps : List Step) (w : World) (q : Queues) (k : ℕ) (p v u : Word) → k + 2 ≤ length p
    → quiet_at steps w q k (p ++ v) ≡ quiet_at steps w q k (p ++ u)
quiet-front steps w q zero [] v u le = absurd (omega arith)
quiet-front steps w q zero (a ∷ []) v u le = absurd (omega arith)
quiet-front steps w q zero (a ∷ b ∷ p) v u le = refl
quiet-front steps w q (suc k) [] v u le = absurd (omega arith)
quiet-front steps w q (suc k) (a ∷ p) v u le = at (get_or q a []) (quiet-front steps w q k p v u (omega arith))
    (λ n ns. quiet-front steps (send steps w n) (set q a ns) k p v u (omega arith))
  where
    at : (x : List ℕ) → quiet_at steps w q k (p ++ v) ≡ quiet_at steps w q k (p ++ u)
        → ((n : ℕ) (ns : List ℕ) → quiet_at steps (send steps w n) (set q a ns) k (p ++ v) ≡ quiet_at steps (send steps w n) (set q a ns) k (p ++ u))
        → (let b : Bool = elim x [ [] ↦ quiet_at steps w q k (p ++ v) | n ∷ ns ↦ quiet_at steps (send steps w n) (set q a ns) k (p ++ v) ] in b)
        ≡ (let b : Bool = elim x [ [] ↦ quiet_at steps w q k (p ++ u) | n ∷ ns ↦ quiet_at steps (send steps w n) (set q a ns) k (p ++ u) ] in b)
    at [] here there = here
    at (n ∷ ns) here there = there n ns

-- no letters fall past the last but one
pub falls-short : (k : ℕ) (v : Word) → length v ≤ k + 1 → falls_at k v ≡ false
falls-short zero [] le = refl
falls-short zero (a ∷ []) le = refl
falls-short zero (a ∷ b ∷ v) le = absurd (omega arith)
falls-short (suc k) [] le = refl
falls-short (suc k) (a ∷ v) le = is_some-map (λ x. a ∷ x) (exchanged k v) ∙ falls-short k v (omega arith)
