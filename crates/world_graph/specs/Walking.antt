-- How far a walk in depth has come. No public clause cites this module.
use Rattle.std.specs.Prelude.{◌≡◌, ℕ, zero, suc, ◌+◌, ◌-◌, ◌*◌, ◌<◌, ◌≤◌, max, true, List, [], ◌∷◌, ◌++◌, Some, Option, slice_get, get_or, map, reverse, length}
use Rattle.std.specs.Option.{option_to_list, IsNone}
use Rattle.path_counts.specs.declared.Edge.{Edge}
use Rattle.path_counts.specs.Paths.{Has, AreApart, IsInOrder}
use Rattle.world_graph.specs.Worlds.{Rules, IsStep, IsTried}
use Rattle.world_graph.specs.declared.walk.State.{State}
use Rattle.world_graph.specs.declared.walk.State.TheVariants.{Fresh, Open, Done}
use Rattle.world_graph.specs.declared.walk.Frame.{Frame}
use Rattle.world_graph.specs.declared.walk.Walk.{Walk}

abbrev pub state_at : List State → ℕ → State
state_at states node = get_or states node Fresh

-- a node has got this state, and each other has its own
pub record IsPut (old new : List State) (node : ℕ) (state : State) : Type 0 where
  pub same : state_at new node ≡ state
  pub other : (n : ℕ) → (n ≡ node → ⊥) → state_at new n ≡ state_at old n
  pub long : length new ≡ max (length old) (node + 1)

-- a node whose letters are tried
pub record IsOpen {World : Type 0} (r : Rules World) (seen : List World) (states : List State) (edges : List Edge) (f : Frame) : Type 0 where
  pub state : state_at states f.node ≡ Open
  pub tried : IsTried r seen edges f.node f.letter
  pub below : (e : Edge) → Has e edges → e.from ≡ f.node → e.letter < f.letter

-- what is known of edges and nodes, where these nodes are open
pub record IsBook {World : Type 0} (r : Rules World) (seen : List World) (states : List State) (edges : List Edge) (stack : List Frame) : Type 0 where
  pub opened : (f : Frame) → Has f stack → IsOpen r seen states edges f
  pub apart : AreApart (map (λ (f : Frame). f.node) stack)
  pub on : (n : ℕ) → state_at states n ≡ Open → Has n (map (λ (f : Frame). f.node) stack)
  pub done : (n : ℕ) → state_at states n ≡ Done → IsTried r seen edges n 8
  pub targets : (e : Edge) → Has e edges → state_at states e.to ≡ Done
  pub sources : (e : Edge) → Has e edges → state_at states e.from ≡ Fresh → ⊥
  pub steps : (e : Edge) → Has e edges → IsStep r seen e
  pub order : IsInOrder edges

-- the open nodes, the newest first, are those of the world and of the marks, each reached from the next by the letter that is tried there
abbrev pub IsChain : {World : Type 0} → Rules World → List World → ℕ → Frame → List Frame → World → List World → Type 0
IsChain r seen root f [] w ws = (slice_get seen f.node ≡ Some w) × (f.node ≡ root)
IsChain r seen root f (g ∷ fs) w [] = ⊥
IsChain r seen root f (g ∷ fs) w (v ∷ ws) = (slice_get seen f.node ≡ Some w) × (g.letter < 8) × (r.can v g.letter ≡ true) × (w ≡ r.next v g.letter) × IsChain r seen root g fs v ws

pub record IsWalk {World : Type 0} (r : Rules World) (seen : List World) (world : World) (marked : List World) (walk : Walk) : Type 0 where
  pub chain : IsChain r seen walk.root walk.at (reverse walk.parents.items) world marked
  pub book : IsBook r seen walk.states.items walk.edges.items (walk.at ∷ reverse walk.parents.items)
  pub few : walk.at.letter ≤ 8
  pub nodes : length walk.states.items ≤ length seen

-- all nodes are done, and the world is the first one again
pub record IsWalked {World : Type 0} (r : Rules World) (seen : List World) (walk : Walk) : Type 0 where
  pub book : IsBook r seen walk.states.items walk.edges.items []
  pub root : state_at walk.states.items walk.root ≡ Done
  pub nodes : length walk.states.items ≤ length seen

-- an edge is written, and its node's next letter is on
pub record IsEmitted (old new : Walk) (f : Frame) (to offset : ℕ) : Type 0 where
  pub edges : new.edges.items ≡ old.edges.items ++ record { from = f.node; letter = f.letter; to = to; offset = offset } ∷ []
  pub at : new.at ≡ record { node = f.node; letter = f.letter + 1 }
  pub parents : new.parents.items ≡ old.parents.items
  pub states : new.states.items ≡ old.states.items
  pub root : new.root ≡ old.root

-- a node is opened below the one that was on
pub record IsEntered (old new : Walk) (to : ℕ) : Type 0 where
  pub edges : new.edges.items ≡ old.edges.items
  pub at : new.at ≡ record { node = to; letter = 0 }
  pub parents : new.parents.items ≡ old.parents.items ++ old.at ∷ []
  pub states : IsPut old.states.items new.states.items to Open
  pub root : new.root ≡ old.root

-- the node that was on is done, and the one above it is taken off
pub record IsFinished (old new : Walk) (frame : Option Frame) : Type 0 where
  pub edges : new.edges.items ≡ old.edges.items
  pub parents : old.parents.items ≡ new.parents.items ++ option_to_list frame
  pub empty : IsNone frame → length new.parents.items ≡ 0
  pub states : IsPut old.states.items new.states.items old.at.node Done
  pub root : new.root ≡ old.root

-- 1 of a node that was not met, and 0 of any other
abbrev pub one_if_fresh : State → ℕ
one_if_fresh Fresh = 1
one_if_fresh Open = 0
one_if_fresh Done = 0

-- how many of the first so many nodes were not met
abbrev pub fresh_nodes : List State → ℕ → ℕ
fresh_nodes states zero = 0
fresh_nodes states (suc n) = one_if_fresh (state_at states n) + fresh_nodes states n

-- the turns that open nodes still take: one for each letter, and one for the way back
abbrev pub turns_of : List Frame → ℕ
turns_of [] = 0
turns_of (f ∷ fs) = (9 - f.letter) + turns_of fs

-- no walk takes more turns than these, where at most so many worlds are noted
abbrev pub turns_left : ℕ → Walk → ℕ
turns_left most walk = 10 * fresh_nodes walk.states.items most + turns_of (walk.parents.items ++ walk.at ∷ [])
