-- What every lock table keeps.
use Rattle.std.specs.Prelude.{◌≡◌, ◌≢◌, ℕ, Bool, true, List, [], ◌∷◌, Some}
use Rattle.lock_modes.specs.Mode.{compatible}
use Rattle.lock_modes.specs.declared.mode.Mode.{Mode}
use Rattle.lock_modes.specs.declared.resource.Resource.{Resource}
use Rattle.lock_queues.specs.Locks.{Wait, Look, waits_for}
use Rattle.lock_queues.specs.LockTable.{Locks, look_in}

-- a way along the edges, of any length
pub data Way (edge : ℕ → ℕ → Bool) : ℕ → ℕ → Type 0 where
  one : {a b : ℕ} → edge a b ≡ true → Way edge a b
  more : {a c b : ℕ} → edge a c ≡ true → Way edge c b → Way edge a b

-- no session reaches itself
abbrev pub NoRing : (ℕ → ℕ → Bool) → Type 0
NoRing edge = (c : ℕ) → Way edge c c → ⊥

-- modes that different sessions hold are compatible there
abbrev pub HeldTogether : Look → Type 0
HeldTogether look = (c d : ℕ) (r : Resource) (m n : Mode) → c ≢ d → look c r ≡ Some m → look d r ≡ Some n → compatible m n ≡ true

abbrev pub EachWait : (Wait → Type 0) → List Wait → Type 0
EachWait P [] = Unit {0}
EachWait P (v ∷ vs) = P v × EachWait P vs

-- no session waits twice
abbrev pub Distinct : List Wait → Type 0
Distinct [] = Unit {0}
Distinct (v ∷ vs) = EachWait (λ u. u.session ≢ v.session) vs × Distinct vs

-- who waits for whom in a lock table
abbrev pub edges : Locks → ℕ → ℕ → Bool
edges l = waits_for (look_in l) l.waits

pub record IsSound (l : Locks) : Type 0 where
  pub together : HeldTogether (look_in l)
  pub distinct : Distinct l.waits
  pub no_ring : NoRing (edges l)
