-- What contracts see of a tree: its lists, by the numbers of their nodes.
use Rattle.std.specs.Prelude.{◌≡◌, ℕ, ◌<◌, ◌⊎◌, List, [], ◌∷◌, ◌++◌, length, get_or}
use Rattle.event_tree.specs.declared.node.NodeId.{NodeId}

-- the number of a node
abbrev pub number_of : NodeId → ℕ
number_of id = id.index

module _ {E : Type 0} where
  -- the node is one of the tree's
  abbrev pub HasNode : List (List E) → NodeId → Type 0
  HasNode lists id = number_of id < length lists

  -- the list of a node
  abbrev pub list_of : List (List E) → NodeId → List E
  list_of lists id = get_or lists (number_of id) []

  -- nothing is new, or this list comes behind all others
  abbrev pub Grows : List (List E) → List E → List (List E) → Type 0
  Grows old list new = (new ≡ old) ⊎ (new ≡ old ++ list ∷ [])

  -- each node of the old tree is one of the new one, for the same list
  abbrev pub Keeps : List (List E) → List (List E) → Type 0
  Keeps old new = (id : NodeId) → HasNode old id → HasNode new id × (list_of new id ≡ list_of old id)
