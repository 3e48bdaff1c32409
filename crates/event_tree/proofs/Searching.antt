-- The way from child to child of a node.
use Rattle.std.specs.Prelude.{◌≡◌, ℕ, suc, ◌-◌, ◌<◌, ◌≤◌, ◌⊎◌, Option, Some, List, length, get_or}
use Rattle.std.proofs.Common.{sym, ap, ◌∙◌, subst, arith, inl, inr}
use Rattle.event_tree.specs.Nodes.{newest, bound, parents_of, IsAt, AreNodes, NoneFrom}
use Rattle.event_tree.specs.declared.node.NodeId.{NodeId}
use Rattle.event_tree.specs.declared.node.Node.{Node}
use Rattle.event_tree.proofs.Listing.{parent-at, same-at}
use Rattle.event_tree.proofs.Newest.{IsNewest, newest-is, newest-last}

before-or-behind : (i j : ℕ) → (i < j) ⊎ ((i ≡ j) ⊎ (suc j ≤ i))
before-or-behind i j = grind arith

module _ {E : Type 0} where
  -- the older sibling of a child is the newest of those before it
  pub sibling-newest : (nodes : List (Node E)) (parent place : ℕ) (node : Node E) → AreNodes nodes → IsAt nodes place node → node.parent.index ≡ parent
      → IsNewest (parents_of nodes) parent place node.older_sibling
  sibling-newest nodes parent place node are at e =
      subst (IsNewest (parents_of nodes) parent place)
      (ap (λ p. newest (parents_of nodes) p place) (sym e) ∙ sym (are place node at).sibling) (newest-is (parents_of nodes) parent place)

  -- where a child does not have the event, and none behind it, none behind its older sibling has
  pub none-from-sibling : (nodes : List (Node E)) (parent place : ℕ) (node : Node E) (event : E) → AreNodes nodes → IsAt nodes place node → node.parent.index ≡ parent
      → (node.event ≡ event → ⊥) → NoneFrom nodes parent event (suc place) → NoneFrom nodes parent event (bound node.older_sibling)
  none-from-sibling nodes parent place node event are at e differs none i other le there p same = by (before-or-behind i place)
    where
      by : (i < place) ⊎ ((i ≡ place) ⊎ (suc place ≤ i)) → ⊥
      by (inl lt) = (sibling-newest nodes parent place node are at e).none i le lt (parent-at nodes i other there ∙ p)
      by (inr (inl here)) =
          differs (ap (λ (n : Node E). n.event) (same-at nodes place node other at (subst (λ k. IsAt nodes k other) here there)) ∙ same)
      by (inr (inr gt)) = none i other gt there p same

  -- the node that a search comes to, where `next` is the newest child of those up to itself
  pub child-at : (nodes : List (Node E)) (parent : ℕ) (next : Option NodeId) (id : NodeId) (node : Node E) → next ≡ Some id
      → newest (parents_of nodes) parent (bound next) ≡ next → bound next ≤ length nodes → node ≡ get_or nodes (id.index - 1) node
      → (place : ℕ) × (id.index ≡ suc place) × IsAt nodes place node × (node.parent.index ≡ parent)
  child-at nodes parent next id node some again inside is =
      let last = newest-last (parents_of nodes) parent id (subst (λ o. newest (parents_of nodes) parent (bound o) ≡ o) some again) in
      let place = last.0 in
      let number : id.index ≡ suc place = last.1 in
      let few : id.index ≤ length nodes = subst (λ o. bound o ≤ length nodes) some inside in
      let back : id.index - 1 ≡ place = omega arith in
      let at : IsAt nodes place node = (omega arith, is ∙ ap (λ k. get_or nodes k node) back) in
      (place, number, at, sym (parent-at nodes place node at) ∙ last.2)
