-- Nodes of which one has a new newest child.
use Rattle.std.specs.Prelude.{◌≡◌, refl, ℕ, zero, suc, ◌==◌, Bool, true, false, cond, Some, List, [], ◌∷◌, ◌++◌, length, set}
use Rattle.std.proofs.Common.{sym, ap, ◌∙◌, arith, eqb-true, eq-eqb}
use Rattle.std.proofs.lemmas.Bool.{eqb-false, ne_eqb}
use Rattle.event_tree.specs.Nodes.{list_at, grown, lists_of, parents_of, IsAt, with_newest, linked}
use Rattle.event_tree.specs.declared.node.NodeId.{NodeId}
use Rattle.event_tree.specs.declared.node.Node.{Node}

eqb-suc : (a b : ℕ) → (a == b) ≡ (suc a == suc b)
eqb-suc a b = at (a == b) refl
  where
    at : (t : Bool) → (a == b) ≡ t → (a == b) ≡ (suc a == suc b)
    at true e = e ∙ sym (eq-eqb (suc a) (suc b) (ap suc (eqb-true a b e)))
    at false e = e ∙ sym (ne_eqb (suc a) (suc b) (λ q. eqb-false a b e (omega arith)))

module _ {E : Type 0} where
  -- what the code writes
  pub set-with_newest : (nodes : List (Node E)) (place : ℕ) (id : NodeId) (node : Node E) → IsAt nodes place node
      → set nodes place (record node { newest_child = Some id }) ≡ with_newest nodes place id
  set-with_newest [] place id node at = absurd (let lt = at.0 in omega arith)
  set-with_newest (other ∷ nodes) zero id node at = ap (λ (n : Node E). record n { newest_child = Some id } ∷ nodes) at.1
  set-with_newest (other ∷ nodes) (suc place) id node at = ap (λ rest. other ∷ rest) (set-with_newest nodes place id node (let lt = at.0 in omega arith, at.1))

  pub linked-suc : (nodes : List (Node E)) (number place : ℕ) (id : NodeId) → number ≡ suc place → with_newest nodes place id ≡ linked nodes number id
  linked-suc nodes zero place id e = absurd (omega arith)
  linked-suc nodes (suc other) place id e = ap (λ n. with_newest nodes n id) (let same : place ≡ other = omega arith in same)

  grown-with_newest : (lists : List (List E)) (nodes : List (Node E)) (place : ℕ) (id : NodeId) → grown lists (with_newest nodes place id) ≡ grown lists nodes
  grown-with_newest lists [] place id = refl
  grown-with_newest lists (node ∷ nodes) zero id = refl
  grown-with_newest lists (node ∷ nodes) (suc place) id = grown-with_newest (lists ++ (list_at lists node.parent.index ++ node.event ∷ []) ∷ []) nodes place id

  parents-with_newest : (nodes : List (Node E)) (place : ℕ) (id : NodeId) → parents_of (with_newest nodes place id) ≡ parents_of nodes
  parents-with_newest [] place id = refl
  parents-with_newest (node ∷ nodes) zero id = refl
  parents-with_newest (node ∷ nodes) (suc place) id = ap (λ rest. node.parent.index ∷ rest) (parents-with_newest nodes place id)

  length-with_newest : (nodes : List (Node E)) (place : ℕ) (id : NodeId) → length (with_newest nodes place id) ≡ length nodes
  length-with_newest [] place id = refl
  length-with_newest (node ∷ nodes) zero id = refl
  length-with_newest (node ∷ nodes) (suc place) id = ap suc (length-with_newest nodes place id)

  pub lists-linked : (nodes : List (Node E)) (number : ℕ) (id : NodeId) → lists_of (linked nodes number id) ≡ lists_of nodes
  lists-linked nodes zero id = refl
  lists-linked nodes (suc place) id = grown-with_newest ([] ∷ []) nodes place id

  pub parents-linked : (nodes : List (Node E)) (number : ℕ) (id : NodeId) → parents_of (linked nodes number id) ≡ parents_of nodes
  parents-linked nodes zero id = refl
  parents-linked nodes (suc place) id = parents-with_newest nodes place id

  pub length-linked : (nodes : List (Node E)) (number : ℕ) (id : NodeId) → length (linked nodes number id) ≡ length nodes
  length-linked nodes zero id = refl
  length-linked nodes (suc place) id = length-with_newest nodes place id

  -- the node that stood at a place before the node of a number got a new newest child
  pub record WasNode (nodes : List (Node E)) (number : ℕ) (id : NodeId) (place : ℕ) (node : Node E) : Type 0 where
    pub was : Node E
    pub at : IsAt nodes place was
    pub is : node ≡ record was { newest_child = cond (number == suc place) (Some id) was.newest_child }

  other-node : (number place : ℕ) (id : NodeId) (node : Node E) → (number ≡ suc place → ⊥)
      → node ≡ record node { newest_child = cond (number == suc place) (Some id) node.newest_child }
  other-node number place id node ne = ap (λ b. record node { newest_child = cond b (Some id) node.newest_child }) (sym (ne_eqb number (suc place) ne))

  was-with_newest : (nodes : List (Node E)) (to : ℕ) (id : NodeId) (place : ℕ) (node : Node E) → IsAt (with_newest nodes to id) place node → WasNode nodes (suc to) id place node
  was-with_newest [] to id place node at = absurd (let lt = at.0 in omega arith)
  was-with_newest (other ∷ nodes) zero id zero node at = record { was = other; at = (omega arith, refl); is = at.1 }
  was-with_newest (other ∷ nodes) zero id (suc place) node at =
      record { was = node; at = (let lt = at.0 in omega arith, at.1); is = other-node 1 (suc place) id node (λ e. omega arith) }
  was-with_newest (other ∷ nodes) (suc to) id zero node at =
      record { was = other; at = (omega arith, refl); is = at.1 ∙ other-node (suc (suc to)) 0 id other (λ e. omega arith) }
  was-with_newest (other ∷ nodes) (suc to) id (suc place) node at =
      let w = was-with_newest nodes to id place node (let lt = at.0 in omega arith, at.1) in
      record {
        was = w.was;
        at = (let lt = w.at.0 in omega arith, w.at.1);
        is = w.is ∙ ap (λ b. record w.was { newest_child = cond b (Some id) w.was.newest_child }) (eqb-suc (suc to) (suc place));
      }

  pub was-linked : (nodes : List (Node E)) (number : ℕ) (id : NodeId) (place : ℕ) (node : Node E) → IsAt (linked nodes number id) place node → WasNode nodes number id place node
  was-linked nodes zero id place node at = record { was = node; at = at; is = other-node 0 place id node (λ e. omega arith) }
  was-linked nodes (suc to) id place node at = was-with_newest nodes to id place node at
