-- The ring that a wait closes: of the shortest ones the least by its sessions, from the victim on.
use Rattle.std.specs.Prelude.{◌≡◌, ◌⊎◌, ℕ, zero, suc, ◌+◌, ◌<◌, ◌≤◌, length, Bool, true, false, ◌==◌, cond, List, [], ◌∷◌, ◌++◌, Option, Some, None, is_some}
pub use Rattle.lock_queues.specs.declared.told.Hop.{Hop}
use Rattle.lock_queues.specs.declared.wait.Wait.{Wait}
use Rattle.lock_queues.specs.Locks.{Look, Spot, spots, waits_for, wanted_by}
use Rattle.lock_queues.specs.Rules.{IsSpot}
use Rattle.lock_queues.specs.Reasons.{Edge, edges_to, spot_of, Among, IsEdge}

-- the least number below n that passes
abbrev pub first_below : ℕ → (ℕ → Bool) → Option ℕ
first_below zero test = None
first_below (suc n) test = elim (first_below n test) [ None ↦ cond (test n) (Some n) None | Some k ↦ Some k ]

-- c is the next session on a way from a that goes on from there
abbrev pub leads_on : (ℕ → ℕ → Bool) → (ℕ → Bool) → ℕ → ℕ → Bool
leads_on edge on a c = elim (edge a c) [ true ↦ on c | false ↦ false ]

-- b is reached from a along so many edges, by sessions below the count
abbrev pub reaches : (ℕ → ℕ → Bool) → ℕ → ℕ → ℕ → ℕ → Bool
reaches edge count zero a b = a == b
reaches edge count (suc n) a b = is_some (first_below count (leads_on edge (λ c. reaches edge count n c b) a))

-- the sessions of that way, each time the least that still reaches b; b itself is left out
abbrev pub stops : (ℕ → ℕ → Bool) → ℕ → ℕ → ℕ → ℕ → List ℕ
stops edge count zero a b = []
stops edge count (suc n) a b = a ∷ elim (first_below count (leads_on edge (λ c. reaches edge count n c b) a)) [ None ↦ [] | Some c ↦ stops edge count n c b ]

-- no way between sessions below the count needs more edges
abbrev pub longest : ℕ → ℕ
longest zero = 1
longest (suc n) = longest n + longest n

-- the ring from the session back to it; nothing where there is none
abbrev pub ring_of : (ℕ → ℕ → Bool) → ℕ → ℕ → List ℕ
ring_of edge count i =
    elim (first_below (longest count) (λ n. reaches edge count (suc n) i i)) [ None ↦ [] | Some n ↦ stops edge count (suc n) i i ]

abbrev pub hop_by : Look → Spot → List Edge → List Hop
hop_by look s [] = []
hop_by look s (e ∷ es) = record { session = s.wait.session; resource = s.wait.resource; mode = wanted_by look s.wait; edge = e } ∷ []

-- from session a to session b, with the first reason
abbrev pub hop : Look → List Wait → ℕ → ℕ → List Hop
hop look waits a b = elim (spot_of a (spots waits)) [ None ↦ [] | Some s ↦ hop_by look s (edges_to look s b) ]

-- from each to the next, and from the last to the end
abbrev pub hops : Look → List Wait → ℕ → List ℕ → ℕ → List Hop
hops look waits a [] end = hop look waits a end
hops look waits a (b ∷ bs) end = hop look waits a b ++ hops look waits b bs end

abbrev pub hops_of : Look → List Wait → List ℕ → List Hop
hops_of look waits [] = []
hops_of look waits (a ∷ bs) = hops look waits a bs a

-- the ring that the session's wait closes, told edge by edge
abbrev pub ring_told : ℕ → Look → List Wait → ℕ → List Hop
ring_told count look waits i = hops_of look waits (ring_of (waits_for look waits) count i)

-- ---- what a ring says

-- from each to the next there is an edge, and from the last to the end
abbrev pub Along : (ℕ → ℕ → Bool) → ℕ → List ℕ → ℕ → Type 0
Along edge a [] end = edge a end ≡ true
Along edge a (b ∷ bs) end = (edge a b ≡ true) × Along edge b bs end

-- none stands there twice
abbrev pub Once : List ℕ → Type 0
Once [] = Unit {0}
Once (x ∷ xs) = (Among x xs → ⊥) × Once xs

-- each is below the number
abbrev pub AllBelow : ℕ → List ℕ → Type 0
AllBelow n [] = Unit {0}
AllBelow n (x ∷ xs) = (x < n) × AllBelow n xs

-- where the two first differ, the one has the smaller session
abbrev pub ComesFirst : List ℕ → List ℕ → Type 0
ComesFirst [] ys = Unit {0}
ComesFirst (x ∷ xs) [] = ⊥
ComesFirst (x ∷ xs) (y ∷ ys) = (x < y) ⊎ ((x ≡ y) × ComesFirst xs ys)

-- a way along the edges from the session to itself, no session twice; of the ways among the sessions below the count none is shorter, and of those
-- of its length none has smaller sessions
pub record IsRing (edge : ℕ → ℕ → Bool) (count i : ℕ) (xs : List ℕ) : Type 0 where
  pub others : List ℕ
  pub from : xs ≡ i ∷ others
  pub along : Along edge i others i
  pub once : Once xs
  pub shortest : (ys : List ℕ) → Along edge i ys i → AllBelow count ys → length others ≤ length ys
  pub least : (ys : List ℕ) → Along edge i ys i → AllBelow count ys → length ys ≡ length others → ComesFirst others ys

-- one edge of it: what session a waits for, and why session b is in its way
pub record IsHop (look : Look) (waits : List Wait) (a b : ℕ) (h : Hop) : Type 0 where
  pub spot : Spot
  pub there : IsSpot waits spot
  pub own : spot.wait.session ≡ a
  pub session : h.session ≡ a
  pub resource : h.resource ≡ spot.wait.resource
  pub mode : h.mode ≡ wanted_by look spot.wait
  pub leads : h.edge.session ≡ b
  pub edge : IsEdge look spot h.edge

-- the edges from each to the next, and from the last to the end
abbrev pub TellsHops : Look → List Wait → ℕ → List ℕ → ℕ → List Hop → Type 0
TellsHops look waits a [] end hs = (h : Hop) × (hs ≡ h ∷ []) × IsHop look waits a end h
TellsHops look waits a (b ∷ bs) end hs = (h : Hop) × (rest : List Hop) × (hs ≡ h ∷ rest) × IsHop look waits a b h × TellsHops look waits b bs end rest

-- what is told is a ring that the session's wait closes
pub record IsRingTold (count : ℕ) (look : Look) (waits : List Wait) (i : ℕ) (hs : List Hop) : Type 0 where
  pub sessions : List ℕ
  pub ring : IsRing (waits_for look waits) count i sessions
  pub tells : TellsHops look waits i ring.others i hs
