-- A ring by rows: row n has the sessions from which its end is reached along n edges.
use Rattle.std.specs.Prelude.{◌≡◌, ℕ, zero, suc, ◌<◌, Bool, List, [], ◌∷◌, ◌++◌, length, get_or, Option, Some, None}
use Rattle.lock_queues.specs.declared.reason.Edge.{Edge}
use Rattle.lock_queues.specs.declared.told.Hop.{Hop}
use Rattle.lock_queues.specs.declared.wait.Wait.{Wait}
use Rattle.lock_queues.specs.Locks.{Look, wanted_by, waits_for}
use Rattle.lock_queues.specs.Rings.{first_below, leads_on, reaches, longest, hop}
use Rattle.lock_queues.specs.Search.{marks}

-- the least session that a waits for and that is in the row
abbrev pub next_of : Look → List Wait → ℕ → (ℕ → Bool) → ℕ → Option ℕ
next_of look waits count row a = first_below count (leads_on (waits_for look waits) row a)

-- of the sessions below the count the row has those from which i is reached along n edges
abbrev pub IsRow : Look → List Wait → ℕ → ℕ → ℕ → (ℕ → Bool) → Type 0
IsRow look waits count i n row = (a : ℕ) → a < count → row a ≡ reaches (waits_for look waits) count n a i

abbrev pub AreRows : Look → List Wait → ℕ → ℕ → List (List Bool) → Type 0
AreRows look waits count i rows = (n : ℕ) → n < length rows → IsRow look waits count i n (marks (get_or rows n []))

-- the rows up to that of the last edge but one of a shortest ring
pub record IsEnough (look : Look) (waits : List Wait) (count i : ℕ) (rows : List (List Bool)) : Type 0 where
  pub last : ℕ
  pub many : length rows ≡ suc last
  pub shortest : first_below (longest count) (λ n. reaches (waits_for look waits) count (suc n) i i) ≡ Some last
  pub are : AreRows look waits count i rows

-- the hops of so many edges from a to i, each time to the least session that still reaches i
abbrev pub walk : Look → List Wait → ℕ → ℕ → ℕ → ℕ → List Hop
walk look waits count i zero a = []
walk look waits count i (suc n) a = elim (first_below count (leads_on (waits_for look waits) (λ c. reaches (waits_for look waits) count n c i) a)) [
  | None ↦ []
  | Some c ↦ hop look waits a c ++ walk look waits count i n c
]

abbrev pub hop_by : Look → Wait → Edge → Hop
hop_by look w e = record { session = w.session; resource = w.resource; mode = wanted_by look w; edge = e }

-- the wait with the first of the edges
abbrev pub hop_of : Look → Wait → List Edge → List Hop
hop_of look w [] = []
hop_of look w (e ∷ es) = hop_by look w e ∷ []
