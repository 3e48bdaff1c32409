-- Where exchanges lead in a block: words that share the two letters, and what stands before them, are exchanged alike.
use Rattle.std.proofs.Common.{◌≡◌, ◌≢◌, refl, sym, ap, ◌∙◌, subst, ℕ, zero, suc, ◌+◌, ◌-◌, ◌<◌, ◌≤◌, Bool, true, false, cond, nat_lt, List, [], ◌∷◌, ◌++◌}
use Rattle.std.proofs.Common.{length, set, get_or, Option, Some, None, option_map, ◌⊎◌, ⊎_elim, arith, append_assoc, lt-ltb, ltb-true, get_or-set_other, inl}
use Rattle.std.proofs.Common.{inr}
use Rattle.std.proofs.lemmas.List.{get_or_past, set_comm}
use Rattle.perm_ranks.specs.Words.{Word, total, all_words, word_at, word_less}
use Rattle.perm_ranks.specs.Swapped.{exchanged}
use Rattle.perm_ranks.specs.Counting.{taken}
use Rattle.perm_ranks.specs.Blocks.{Block, end_of, HasRank, narrowed, IsBlockOf}
use Rattle.perm_ranks.proofs.SwapLemmas.{exchanged-less, exchanged-short}
use Rattle.perm_ranks.proofs.WordLemmas.{Takes, takes-length, each-at, words-take, stands-before, place-is, entry-place, all_words-rise}
use Rattle.rank_facts.specs.Swap.{placed_at}
use Rattle.fact_books.specs.declared.run.Tag.TheVariants.{Swap}
use Rattle.fact_books.specs.declared.leading.Lead.TheVariants.{From, Nowhere}
use Rattle.fact_books.specs.Sweep.{leads_of, LeadsDown, IsLead}

-- ---- exchanges lead down

none-empty : (k : ℕ) (other : Word) → exchanged k [] ≡ Some other → ⊥
none-empty zero other f = cc
none-empty (suc k) other f = cc

pub leads-down : (shape : Option (List ℕ)) → LeadsDown (leads_of shape)
leads-down None r k below e = cc
leads-down (Some counts) r k below e = at (exchanged k (word_at counts r)) refl e
  where
    in-range : (other : Word) → exchanged k (word_at counts r) ≡ Some other → (r < length (all_words counts)) ⊎ (length (all_words counts) ≤ r)
        → r < length (all_words counts)
    in-range other f (inl l) = l
    in-range other f (inr l) = absurd (none-empty k other (subst (λ v. exchanged k v ≡ Some other) (get_or_past (all_words counts) r [] l) f))

    at : (o : Option Word) → exchanged k (word_at counts r) ≡ o → placed_at (all_words counts) o ≡ Some below → below < r
    at None is f = cc
    at (Some other) is f =
        let p = place-is other (all_words counts) below f in
        stands-before (all_words counts) below r (all_words-rise counts) p.0 (in-range other is (grind arith))
        (subst (λ v. word_less v (word_at counts r) ≡ true) (sym p.1) (exchanged-less k (word_at counts r) other is))

-- ---- past the words, and where no two letters stand

pub past-nowhere : (counts : List ℕ) (r k : ℕ) → length (all_words counts) ≤ r → leads_of (Some counts) r k ≡ None
past-nowhere counts r k le = ap (λ v. placed_at (all_words counts) (exchanged k v)) (get_or_past (all_words counts) r [] le)
    ∙ ap (placed_at (all_words counts)) (none k)
  where
    none : (k : ℕ) → exchanged k [] ≡ None
    none zero = refl
    none (suc k) = refl

-- ---- in a block

front-exchanged : (shared rest : Word) (a b : ℕ)
    → exchanged (length shared) (shared ++ (a ∷ b ∷ rest)) ≡ cond (nat_lt b a) (Some (shared ++ (b ∷ a ∷ rest))) None
front-exchanged [] rest a b = refl
front-exchanged (x ∷ shared) rest a b = ap (option_map (λ v. x ∷ v)) (front-exchanged shared rest a b) ∙ on (nat_lt b a)
  where
    on : (t : Bool) → option_map (λ v. x ∷ v) (cond t (Some (shared ++ (b ∷ a ∷ rest))) None) ≡ cond t (Some (x ∷ (shared ++ (b ∷ a ∷ rest)))) None
    on true = refl
    on false = refl

two-behind : (shared rest : Word) (a b : ℕ) → ((shared ++ a ∷ []) ++ b ∷ []) ++ rest ≡ shared ++ (a ∷ b ∷ rest)
two-behind shared rest a b = append_assoc (shared ++ a ∷ []) (b ∷ []) rest ∙ append_assoc shared (a ∷ []) (b ∷ rest)

module _ (counts : List ℕ) (shared : Word) (a b : ℕ) (inside : Block) (is : IsBlockOf counts ((shared ++ a ∷ []) ++ b ∷ []) inside) where
  word-inside : (i : ℕ) → i < length (all_words inside.left) → word_at counts (inside.first + i) ≡ shared ++ (a ∷ b ∷ word_at inside.left i)
  word-inside i lt = is.words i lt ∙ two-behind shared (word_at inside.left i) a b

  -- letters that do not fall are not exchanged
  pub rising-nowhere : (i : ℕ) → i < length (all_words inside.left) → a ≤ b → leads_of (Some counts) (inside.first + i) (length shared) ≡ None
  rising-nowhere i lt le =
      ap (λ v. placed_at (all_words counts) (exchanged (length shared) v)) (word-inside i lt)
      ∙ ap (placed_at (all_words counts))
      (front-exchanged shared (word_at inside.left i) a b
      ∙ ap (λ t. cond t (Some (shared ++ (b ∷ a ∷ word_at inside.left i))) None) (not-less (nat_lt b a) refl))
    where
      not-less : (t : Bool) → nat_lt b a ≡ t → nat_lt b a ≡ false
      not-less true e = absurd (let less = ltb-true b a e in omega (arith, less, le))
      not-less false e = e

  -- the others lead to the words of the block of the exchanged letters, in order
  pub falling-leads : (other : Block) → IsBlockOf counts ((shared ++ b ∷ []) ++ a ∷ []) other → other.left ≡ inside.left → b < a → (i : ℕ)
      → i < length (all_words inside.left)
      → leads_of (Some counts) (inside.first + i) (length shared) ≡ Some (other.first + i)
  falling-leads other there same less i lt =
      let few : i < length (all_words other.left) = subst (λ l. i < length (all_words l)) (sym same) lt in
      let word : word_at counts (other.first + i) ≡ shared ++ (b ∷ a ∷ word_at inside.left i) =
      there.words i few ∙ two-behind shared (word_at other.left i) b a ∙ ap (λ l. shared ++ (b ∷ a ∷ word_at l i)) same in
      ap (λ v. placed_at (all_words counts) (exchanged (length shared) v)) (word-inside i lt)
      ∙ ap (placed_at (all_words counts))
      (front-exchanged shared (word_at inside.left i) a b ∙ ap (λ t. cond t (Some (shared ++ (b ∷ a ∷ word_at inside.left i))) None) (lt-ltb b a less))
      ∙ entry-place (all_words counts) (shared ++ (b ∷ a ∷ word_at inside.left i)) (other.first + i) (all_words-rise counts)
      (let end = there.inside in omega (arith, few, end)) word

-- ---- letters are taken in any order

taken-comm : (counts : List ℕ) (a b : ℕ) → b ≢ a → taken (taken counts b) a ≡ taken (taken counts a) b
taken-comm counts a b ne =
    ap (λ n. set (taken counts b) a (n - 1)) (get_or-set_other counts b a (get_or counts b 0 - 1) 0 (λ e. ne (sym e)))
    ∙ set_comm counts b a (get_or counts b 0 - 1) (get_or counts a 0 - 1) ne
    ∙ sym (ap (λ n. set (taken counts a) b (n - 1)) (get_or-set_other counts a b (get_or counts a 0 - 1) 0 ne))

pub left-other : (counts : List ℕ) (a b : ℕ) → b ≢ a → 0 < get_or (taken counts a) b 0 → 0 < get_or counts b 0
left-other counts a b ne h = subst (λ n. 0 < n) (get_or-set_other counts a b (get_or counts a 0 - 1) 0 ne) h

pub left-still : (counts : List ℕ) (a b : ℕ) → b ≢ a → 0 < get_or counts b 0 → 0 < get_or (taken counts a) b 0
left-still counts a b ne h = subst (λ n. 0 < n) (sym (get_or-set_other counts a b (get_or counts a 0 - 1) 0 ne)) h

-- ---- what is answered

module _ (counts : List ℕ) (shared : Word) (a b rank last : ℕ) (inside : Block) (has : HasRank inside rank) (few : last ≤ end_of inside)
    (is : IsBlockOf counts ((shared ++ a ∷ []) ++ b ∷ []) inside) where
  pub nowhere-lead : a ≤ b → IsLead (leads_of (Some counts)) rank last (Swap (length shared)) Nowhere
  nowhere-lead le = (
    length shared,
    refl,
    λ i lt.
        (let from = has.0 in
        let there : inside.first + (rank - inside.first + i) ≡ rank + i = omega (arith, from) in
        subst (λ r. leads_of (Some counts) r (length shared) ≡ None) there
        (rising-nowhere counts shared a b inside is (rank - inside.first + i) (omega (arith, from, lt, few)) le)),
  )

  pub from-lead : (block behind other : Block) → behind ≡ narrowed block a → inside ≡ narrowed behind b → other ≡ narrowed (narrowed block b) a
      → IsBlockOf counts ((shared ++ b ∷ []) ++ a ∷ []) other → b < a
      → IsLead (leads_of (Some counts)) rank last (Swap (length shared)) (From (other.first + (rank - inside.first)))
  from-lead block behind other first second third there less = (
    length shared,
    refl,
    λ i lt.
        (let from = has.0 in
        let here : inside.first + (rank - inside.first + i) ≡ rank + i = omega (arith, from) in
        let beyond : other.first + (rank - inside.first + i) ≡ other.first + (rank - inside.first) + i = omega arith in
        subst (λ r. leads_of (Some counts) r (length shared) ≡ Some (other.first + (rank - inside.first) + i)) here
        (falling-leads counts shared a b inside is other there same less (rank - inside.first + i) (omega (arith, from, lt, few)) ∙ ap Some beyond)),
  )
    where
      same : other.left ≡ inside.left
      same =
          ap (λ (x : Block). x.left) third ∙ taken-comm block.left a b (λ e. (omega (arith, e, less)))
          ∙ sym (ap (λ (x : Block). x.left) second ∙ ap (λ (x : Block). taken x.left b) first)

-- no two letters stand from there on
short-nowhere : (counts : List ℕ) (r k : ℕ) → total counts < k + 2 → leads_of (Some counts) r k ≡ None
short-nowhere counts r k short = ⊎_elim
    (λ lt.
    let long = takes-length (total counts) counts (word_at counts r)
    (each-at (Takes (total counts) counts) (all_words counts) r lt (words-take (total counts) counts)) in
    ap (placed_at (all_words counts)) (exchanged-short k (word_at counts r) (omega (arith, long, short))))
    (λ past. past-nowhere counts r k past)
    cases
  where
    cases : (r < length (all_words counts)) ⊎ (length (all_words counts) ≤ r)
    cases = grind arith

pub past-lead : (counts : List ℕ) (rank last k : ℕ) → length (all_words counts) ≤ rank → IsLead (leads_of (Some counts)) rank last (Swap k) Nowhere
past-lead counts rank last k le = (k, refl, λ i lt. past-nowhere counts (rank + i) k (omega (arith, le)))

pub short-lead : (counts : List ℕ) (rank last k : ℕ) → total counts < k + 2 → IsLead (leads_of (Some counts)) rank last (Swap k) Nowhere
short-lead counts rank last k short = (k, refl, λ i lt. short-nowhere counts (rank + i) k short)
