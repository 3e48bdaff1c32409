-- The newest child of a node among the first of some nodes.
use Rattle.std.specs.Prelude.{◌≡◌, refl, ℕ, zero, suc, ◌<◌, ◌≤◌, ◌⊎◌, ◌==◌, Bool, true, false, cond, Option, None, Some, List, [], ◌∷◌, ◌++◌, length, get_or}
use Rattle.std.proofs.Common.{sym, ap, ◌∙◌, arith, eqb-true, inl, inr}
use Rattle.std.proofs.lemmas.List.{get_or_append_left, get_or_at}
use Rattle.std.proofs.lemmas.Bool.{eqb-false, ne_eqb}
use Rattle.event_tree.specs.Nodes.{newest, bound}
use Rattle.event_tree.specs.declared.node.NodeId.{NodeId}

-- what is known of the newest child: it is one, and none is newer
pub record IsNewest (parents : List ℕ) (parent count : ℕ) (id : Option NodeId) : Type 0 where
  pub inside : bound id ≤ count
  pub again : newest parents parent (bound id) ≡ id
  pub none : (place : ℕ) → bound id ≤ place → place < count → get_or parents place 0 ≡ parent → ⊥

last-or : (place count : ℕ) → place < suc count → (place < count) ⊎ (place ≡ count)
last-or place count lt = grind arith

none-or : (parents : List ℕ) (parent count : ℕ) (id : Option NodeId) → IsNewest parents parent count id → (get_or parents count 0 == parent) ≡ false
    → (place : ℕ) → (place < count) ⊎ (place ≡ count) → bound id ≤ place → get_or parents place 0 ≡ parent → ⊥
none-or parents parent count id below e place (inl lt) le s = below.none place le lt s
none-or parents parent count id below e place (inr here) le s = eqb-false (get_or parents count 0) parent e (ap (λ k. get_or parents k 0) (sym here) ∙ s)

newest-step : (parents : List ℕ) (parent count : ℕ) (id : Option NodeId) (b : Bool) → (get_or parents count 0 == parent) ≡ b → newest parents parent count ≡ id → IsNewest parents parent count id
    → IsNewest parents parent (suc count) (cond b (Some (record { index = suc count })) id)
newest-step parents parent count id true e is below = record {
  inside = omega arith;
  again = ap (λ b. cond b (Some (record { index = suc count })) (newest parents parent count)) e;
  none = λ place le lt s. omega arith;
}
newest-step parents parent count id false e is below = record {
  inside = (let a = below.inside in omega arith);
  again = below.again;
  none = λ place le lt s. none-or parents parent count id below e place (last-or place count lt) le s;
}

pub newest-is : (parents : List ℕ) (parent count : ℕ) → IsNewest parents parent count (newest parents parent count)
newest-is parents parent zero = record { inside = omega arith; again = refl; none = λ place le lt e. omega arith }
newest-is parents parent (suc count) =
    newest-step parents parent count (newest parents parent count) (get_or parents count 0 == parent) refl refl (newest-is parents parent count)

-- a child that is the newest among so many is the last of them
pub newest-last : (parents : List ℕ) (parent : ℕ) (id : NodeId) → newest parents parent id.index ≡ Some id
    → (place : ℕ) × (id.index ≡ suc place) × (get_or parents place 0 ≡ parent)
newest-last parents parent id e = from id.index refl
  where
    from : (count : ℕ) → id.index ≡ count → (place : ℕ) × (id.index ≡ suc place) × (get_or parents place 0 ≡ parent)
    from zero is = absurd (let bad : None ≡ Some id = ap (newest parents parent) (sym is) ∙ e in cc)
    from (suc place) is = (place, is, at (get_or parents place 0 == parent) refl)
      where
        at : (b : Bool) → (get_or parents place 0 == parent) ≡ b → get_or parents place 0 ≡ parent
        at true t = eqb-true (get_or parents place 0) parent t
        at false t =
            let same : newest parents parent place ≡ Some id =
            sym (ap (λ b. cond b (Some (record { index = suc place })) (newest parents parent place)) t) ∙ ap (newest parents parent) (sym is) ∙ e in
            absurd (let small = (newest-is parents parent place).inside in let k : bound (newest parents parent place) ≡ id.index = ap bound same in omega arith)

-- a further node does not change what is the newest before it
pub newest-more : (parents : List ℕ) (further parent count : ℕ) → count ≤ length parents → newest (parents ++ further ∷ []) parent count ≡ newest parents parent count
newest-more parents further parent zero le = refl
newest-more parents further parent (suc count) le =
    ap (λ k. cond (k == parent) (Some (record { index = suc count })) (newest (parents ++ further ∷ []) parent count))
    (get_or_append_left parents (further ∷ []) 0 count (omega arith))
    ∙ ap (cond (get_or parents count 0 == parent) (Some (record { index = suc count }))) (newest-more parents further parent count (omega arith))

-- and is the newest of its own parent
pub newest-end : (parents : List ℕ) (further parent count : ℕ) → count ≡ length parents
    → newest (parents ++ further ∷ []) parent (suc count) ≡ cond (further == parent) (Some (record { index = suc count })) (newest parents parent count)
newest-end parents further parent count is =
    ap (λ k. cond (k == parent) (Some (record { index = suc count })) (newest (parents ++ further ∷ []) parent count)) (get_or_at parents further [] 0 count (sym is))
    ∙ ap (cond (further == parent) (Some (record { index = suc count }))) (newest-more parents further parent count (omega arith))

-- who is nobody's parent has no newest child
pub newest-none : (parents : List ℕ) (parent count : ℕ) → ((place : ℕ) → place < count → get_or parents place 0 ≡ parent → ⊥) → newest parents parent count ≡ None
newest-none parents parent zero h = refl
newest-none parents parent (suc count) h =
    ap (λ b. cond b (Some (record { index = suc count })) (newest parents parent count)) (ne_eqb (get_or parents count 0) parent (h count (omega arith)))
    ∙ newest-none parents parent count (λ place lt. h place (omega arith))
