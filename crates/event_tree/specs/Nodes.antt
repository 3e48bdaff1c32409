-- How the nodes of a tree lie. No public clause cites this module.
use Rattle.std.specs.Prelude.{◌≡◌, ℕ, zero, suc, ◌<◌, ◌≤◌, ◌==◌, cond, Option, None, Some, List, [], ◌∷◌, ◌++◌, map, length, get_or}
use Rattle.event_tree.specs.declared.node.NodeId.{NodeId}
use Rattle.event_tree.specs.declared.node.Node.{Node}

-- of the first so many nodes, the newest with this parent, by the numbers of all nodes' parents; the node at a place has the number behind it
abbrev pub newest : List ℕ → ℕ → ℕ → Option NodeId
newest parents parent zero = None
newest parents parent (suc place) = cond (get_or parents place 0 == parent) (Some (record { index = suc place })) (newest parents parent place)

-- the newest child of the empty list's node, where a node is made the newest one of a parent
abbrev pub linked_top : Option NodeId → ℕ → NodeId → Option NodeId
linked_top top parent id = cond (parent == 0) (Some id) top

-- the number of a node that may be none, or 0
abbrev pub bound : Option NodeId → ℕ
bound None = 0
bound (Some id) = id.index

module _ {E : Type 0} where
  -- the list of a number
  abbrev pub list_at : List (List E) → ℕ → List E
  list_at lists number = get_or lists number []

  -- the lists, with one more for each node
  abbrev pub grown : List (List E) → List (Node E) → List (List E)
  grown lists [] = lists
  grown lists (node ∷ nodes) = grown (lists ++ (list_at lists node.parent.index ++ node.event ∷ []) ∷ []) nodes

  -- the lists of a tree with these nodes
  abbrev pub lists_of : List (Node E) → List (List E)
  lists_of nodes = grown ([] ∷ []) nodes

  abbrev pub parents_of : List (Node E) → List ℕ
  parents_of nodes = map (λ (node : Node E). node.parent.index) nodes

  -- a node stands at a place
  abbrev pub IsAt : List (Node E) → ℕ → Node E → Type 0
  IsAt nodes place node = (place < length nodes) × (node ≡ get_or nodes place node)

  -- the nodes, where that at a place has a new newest child
  abbrev pub with_newest : List (Node E) → ℕ → NodeId → List (Node E)
  with_newest [] place id = []
  with_newest (node ∷ nodes) zero id = record node { newest_child = Some id } ∷ nodes
  with_newest (node ∷ nodes) (suc place) id = node ∷ with_newest nodes place id

  -- the same of a number
  abbrev pub linked : List (Node E) → ℕ → NodeId → List (Node E)
  linked nodes zero id = nodes
  linked nodes (suc place) id = with_newest nodes place id

  -- a further node
  abbrev pub new_id : List (Node E) → NodeId
  new_id nodes = record { index = suc (length nodes) }

  abbrev pub new_node : List (Node E) → NodeId → E → Node E
  new_node nodes parent event = record {
    event = event;
    parent = parent;
    newest_child = None;
    older_sibling = newest (parents_of nodes) parent.index (length nodes);
  }

  -- the nodes, with one more that is its parent's newest child
  abbrev pub with_child : List (Node E) → NodeId → E → List (Node E)
  with_child nodes parent event = linked (nodes ++ new_node nodes parent event ∷ []) parent.index (new_id nodes)

  -- a node is behind its parent, its children and its older siblings are told by the newest of them, and its list ends with its event
  pub record IsNode (lists : List (List E)) (parents : List ℕ) (count place : ℕ) (node : Node E) : Type 0 where
    pub earlier : node.parent.index ≤ place
    pub child : node.newest_child ≡ newest parents (suc place) count
    pub sibling : node.older_sibling ≡ newest parents node.parent.index place
    pub list : list_at lists (suc place) ≡ list_at lists node.parent.index ++ node.event ∷ []

  abbrev pub AreNodes : List (Node E) → Type 0
  AreNodes nodes = (place : ℕ) (node : Node E) → IsAt nodes place node → IsNode (lists_of nodes) (parents_of nodes) (length nodes) place node

  -- nodes are linked, also below the empty list's, and no two lists are the same
  pub record IsSound (top : Option NodeId) (nodes : List (Node E)) : Type 0 where
    pub top_is : top ≡ newest (parents_of nodes) 0 (length nodes)
    pub are_nodes : AreNodes nodes
    pub apart : (i j : ℕ) → i ≤ length nodes → j ≤ length nodes → list_at (lists_of nodes) i ≡ list_at (lists_of nodes) j → i ≡ j

  -- the child of a node with an event
  pub record IsChild (nodes : List (Node E)) (parent : ℕ) (event : E) (id : NodeId) : Type 0 where
    pub place : ℕ
    pub node : Node E
    pub number : id.index ≡ suc place
    pub at : IsAt nodes place node
    pub parent_is : node.parent.index ≡ parent
    pub same : node.event ≡ event

  -- no child of a node has the event, from a place on
  abbrev pub NoneFrom : List (Node E) → ℕ → E → ℕ → Type 0
  NoneFrom nodes parent event from = (place : ℕ) (node : Node E) → from ≤ place → IsAt nodes place node → node.parent.index ≡ parent → node.event ≡ event → ⊥

  -- no child of a node has the event
  abbrev pub HasNoChild : List (Node E) → ℕ → E → Type 0
  HasNoChild nodes parent event = (place : ℕ) (node : Node E) → IsAt nodes place node → node.parent.index ≡ parent → node.event ≡ event → ⊥
