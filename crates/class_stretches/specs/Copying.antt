-- How a list of stretches grows by copies of its own.
use Rattle.std.specs.Prelude.{◌≡◌, ℕ, ◌+◌, ◌-◌, ◌<◌, ◌≤◌, List}
use Rattle.class_stretches.specs.declared.stretch.Stretch.{Stretch}
use Rattle.class_stretches.specs.Stretches.{class_at, end_of, AreStretches, AreInOrder}

-- the ranks up to a new end are in the classes of as many ranks from here on, and all else is as it was
pub record IsCopiedList (old new : List Stretch) (from end : ℕ) : Type 0 where
  pub stretches : AreStretches 0 new
  pub order : (n : ℕ) → AreInOrder 0 old n → AreInOrder 0 new n
  pub before : (r : ℕ) → r < end_of old → class_at new r ≡ class_at old r
  pub behind : (r : ℕ) → end_of old ≤ r → r < end → class_at new r ≡ class_at old (from + (r - end_of old))
  pub ends : end_of new ≡ end
