-- The lists and the parents of nodes, by the places of these.
use Rattle.std.specs.Prelude.{◌≡◌, refl, ℕ, zero, suc, ◌+◌, ◌<◌, ◌≤◌, List, [], ◌∷◌, ◌++◌, length, get_or}
use Rattle.std.proofs.Common.{sym, ap, ◌∙◌, arith, length-append}
use Rattle.std.proofs.lemmas.List.{get_or_append_left, get_or_default}
use Rattle.event_tree.specs.Nodes.{list_at, grown, lists_of, parents_of, IsAt}
use Rattle.event_tree.specs.declared.node.Node.{Node}

module _ {E : Type 0} where
  pub parent-at : (nodes : List (Node E)) (place : ℕ) (node : Node E) → IsAt nodes place node → get_or (parents_of nodes) place 0 ≡ node.parent.index
  parent-at [] place node at = absurd (let lt = at.0 in omega arith)
  parent-at (other ∷ nodes) zero node at = ap (λ (n : Node E). n.parent.index) (sym at.1)
  parent-at (other ∷ nodes) (suc place) node at = parent-at nodes place node (let lt = at.0 in omega arith, at.1)

  -- at each place stands a node
  pub node-at : (nodes : List (Node E)) (place : ℕ) → place < length nodes → (node : Node E) × IsAt nodes place node
  node-at [] place lt = absurd (omega arith)
  node-at (node ∷ nodes) zero lt = (node, (lt, refl))
  node-at (other ∷ nodes) (suc place) lt = let rest = node-at nodes place (omega arith) in (rest.0, (lt, rest.1.1))

  -- and no other one
  pub same-at : (nodes : List (Node E)) (place : ℕ) (one other : Node E) → IsAt nodes place one → IsAt nodes place other → one ≡ other
  same-at nodes place one other a b = a.1 ∙ get_or_default nodes place one other a.0 ∙ sym b.1

  length-grown : (lists : List (List E)) (nodes : List (Node E)) → length (grown lists nodes) ≡ length lists + length nodes
  length-grown lists [] = omega arith
  length-grown lists (node ∷ nodes) =
      length-grown (lists ++ (list_at lists node.parent.index ++ node.event ∷ []) ∷ []) nodes
      ∙ ap (λ n. n + length nodes) (length-append lists ((list_at lists node.parent.index ++ node.event ∷ []) ∷ []))
      ∙ omega arith

  pub length-lists_of : (nodes : List (Node E)) → length (lists_of nodes) ≡ suc (length nodes)
  length-lists_of nodes = length-grown ([] ∷ []) nodes ∙ omega arith

  -- nodes leave the lists before theirs as they are
  grown-before : (lists : List (List E)) (nodes : List (Node E)) (number : ℕ) → number < length lists → list_at (grown lists nodes) number ≡ list_at lists number
  grown-before lists [] number lt = refl
  grown-before lists (node ∷ nodes) number lt =
      grown-before (lists ++ (list_at lists node.parent.index ++ node.event ∷ []) ∷ []) nodes number
      (omega (arith, length-append lists ((list_at lists node.parent.index ++ node.event ∷ []) ∷ [])))
      ∙ get_or_append_left lists ((list_at lists node.parent.index ++ node.event ∷ []) ∷ []) [] number lt

  pub root-list : (nodes : List (Node E)) → list_at (lists_of nodes) 0 ≡ []
  root-list nodes = grown-before ([] ∷ []) nodes 0 (omega arith)

  pub grown-push : (lists : List (List E)) (nodes : List (Node E)) (node : Node E)
      → grown lists (nodes ++ node ∷ []) ≡ grown lists nodes ++ (list_at (grown lists nodes) node.parent.index ++ node.event ∷ []) ∷ []
  grown-push lists [] node = refl
  grown-push lists (other ∷ nodes) node = grown-push (lists ++ (list_at lists other.parent.index ++ other.event ∷ []) ∷ []) nodes node

  -- a number of one of the tree's lists is no greater than there are nodes
  pub inside-nodes : (nodes : List (Node E)) (lists : List (List E)) (number : ℕ) → lists_of nodes ≡ lists → number < length lists → number ≤ length nodes
  inside-nodes nodes lists number e lt = omega (arith, length-lists_of nodes, ap length e)
