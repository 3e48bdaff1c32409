-- The search for a ring: sessions that are reached, and of these the ones that are passed.
use Rattle.std.specs.Prelude.{◌≡◌, ◌⊎◌, ℕ, Bool, true, false, List, get_or}
use Rattle.lock_queues.specs.Locks.{Wait, Look, waits_now, waits_for}

-- what is marked by session
abbrev pub marks : List Bool → ℕ → Bool
marks flags b = get_or flags b false

-- each session that waits and is reached is passed
abbrev pub AllPassed : List Wait → (ℕ → Bool) → (ℕ → Bool) → Type 0
AllPassed waits reached passed = (b : ℕ) → waits_now waits b ≡ true → reached b ≡ true → passed b ≡ true

pub record IsOpen (reached passed : ℕ → Bool) (b : ℕ) : Type 0 where
  pub is_reached : reached b ≡ true
  pub not_passed : passed b ≡ false

-- what is marked once the waits of a session are passed: what was, sessions that it waits for, and of these all that wait
pub record Marks (look : Look) (waits : List Wait) (a : ℕ) (old new : ℕ → Bool) : Type 0 where
  pub kept : (b : ℕ) → old b ≡ true → new b ≡ true
  pub sound : (b : ℕ) → new b ≡ true → (old b ≡ true) ⊎ (waits_for look waits a b ≡ true)
  pub marked : (b : ℕ) → waits_now waits b ≡ true → waits_for look waits a b ≡ true → new b ≡ true
