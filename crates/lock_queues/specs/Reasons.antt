-- Why a session waits: the modes that others hold there, and the waits that are ahead.
use Rattle.std.specs.Prelude.{◌≡◌, ◌≢◌, ◌⊎◌, ℕ, zero, suc, Bool, true, false, ◌&&◌, cond, ◌==◌, List, [], ◌∷◌, ◌++◌, Option, Some, None}
use Rattle.std.specs.List.{list_any}
use Rattle.lock_modes.specs.declared.mode.Mode.{Mode}
use Rattle.lock_modes.specs.declared.resource.Resource.{Resource}
use Rattle.lock_modes.specs.Mode.{compatible, same_mode}
pub use Rattle.lock_queues.specs.declared.reason.Reason.{Reason}
pub use Rattle.lock_queues.specs.declared.reason.Reason.TheVariants.{Holds, Ahead}
pub use Rattle.lock_queues.specs.declared.reason.Edge.{Edge}
use Rattle.lock_queues.specs.declared.wait.Wait.{Wait}
use Rattle.lock_queues.specs.Locks.{Look, Spot, spots, ahead, wanted_by, waits_for}
use Rattle.lock_queues.specs.Rules.{IsSpot}

-- what session b holds there, where the wanted mode does not fit beside it
abbrev pub held_edges : ℕ → Mode → Option Mode → List Edge
held_edges b wants None = []
held_edges b wants (Some held) = cond (compatible wants held) [] (record { session = b; reason = Holds held } ∷ [])

-- of these waits those of session b
abbrev pub ahead_edges : Look → ℕ → List Wait → List Edge
ahead_edges look b [] = []
ahead_edges look b (v ∷ vs) = cond (v.session == b) (record { session = b; reason = Ahead (wanted_by look v) } ∷ ahead_edges look b vs) (ahead_edges look b vs)

-- why the wait waits for session b
abbrev pub edges_to : Look → Spot → ℕ → List Edge
edges_to look s b =
    cond (s.wait.session == b) [] (held_edges b (wanted_by look s.wait) (look b s.wait.resource) ++ ahead_edges look b (ahead look s))

-- whom the wait waits for of the sessions below the number, in their order, and why
abbrev pub edges_below : ℕ → Look → Spot → List Edge
edges_below zero look s = []
edges_below (suc n) look s = edges_below n look s ++ edges_to look s n

-- the session's wait
abbrev pub spot_of : ℕ → List Spot → Option Spot
spot_of a [] = None
spot_of a (s ∷ ss) = cond (s.wait.session == a) (Some s) (spot_of a ss)

-- what a wait wants: the mode there that covers what is asked and what is held, and whom it waits for
pub record Want : Type 0 where
  pub resource : Resource
  pub mode : Mode
  pub asked : Mode
  pub has : Option Mode
  pub edges : List Edge

abbrev pub want_at : ℕ → Look → Spot → Want
want_at count look s =
    record {
      resource = s.wait.resource;
      mode = wanted_by look s.wait;
      asked = s.wait.mode;
      has = look s.wait.session s.wait.resource;
      edges = edges_below count look s;
    }

-- a request as a wait behind all others
abbrev pub last_spot : List Wait → ℕ → Resource → Mode → Spot
last_spot waits i r m = record { before = waits; wait = record { session = i; resource = r; mode = m }; after = [] }

abbrev pub want_by : ℕ → Look → Option Spot → Option Want
want_by count look None = None
want_by count look (Some s) = Some (want_at count look s)

-- what the session waits for, if it waits
abbrev pub want_of : ℕ → Look → List Wait → ℕ → Option Want
want_of count look waits a = want_by count look (spot_of a (spots waits))

-- ---- the same edges

abbrev pub same_reason : Reason → Reason → Bool
same_reason (Holds m) (Holds n) = same_mode m n
same_reason (Holds m) (Ahead n) = false
same_reason (Ahead m) (Holds n) = false
same_reason (Ahead m) (Ahead n) = same_mode m n

abbrev pub same_edges : List Edge → List Edge → Bool
same_edges [] [] = true
same_edges [] (f ∷ fs) = false
same_edges (e ∷ es) [] = false
same_edges (e ∷ es) (f ∷ fs) = (e.session == f.session) && same_reason e.reason f.reason && same_edges es fs

-- ---- what edges say

-- one of the list
abbrev pub Among : {A : Type 0} → A → List A → Type 0
Among x [] = ⊥
Among x (y ∷ ys) = (x ≡ y) ⊎ Among x ys

-- an edge of the list leads to session b
abbrev pub leads_to : ℕ → List Edge → Bool
leads_to b es = list_any (λ (e : Edge). e.session == b) es

-- the reason is a true one
abbrev pub IsReason : Look → Spot → ℕ → Reason → Type 0
IsReason look s b (Holds m) = (look b s.wait.resource ≡ Some m) × (compatible (wanted_by look s.wait) m ≡ false)
IsReason look s b (Ahead m) = (v : Wait) × Among v (ahead look s) × (v.session ≡ b) × (m ≡ wanted_by look v)

-- the wait waits for another session, for this reason
abbrev pub IsEdge : Look → Spot → Edge → Type 0
IsEdge look s e = (s.wait.session ≢ e.session) × IsReason look s e.session e.reason

-- what is told is the session's wait and each reason why it waits, and no other: its edges lead to the sessions that it waits for
pub record IsExact (look : Look) (waits : List Wait) (a : ℕ) (want : Want) : Type 0 where
  pub spot : Spot
  pub there : IsSpot waits spot
  pub own : spot.wait.session ≡ a
  pub resource : want.resource ≡ spot.wait.resource
  pub mode : want.mode ≡ wanted_by look spot.wait
  pub asked : want.asked ≡ spot.wait.mode
  pub has : want.has ≡ look a want.resource
  pub sessions : (b : ℕ) → leads_to b want.edges ≡ waits_for look waits a b
  pub each : (e : Edge) → Among e want.edges → IsEdge look spot e
  pub all : (e : Edge) → IsEdge look spot e → Among e want.edges
