-- Outcomes, each once, under the numbers of their classes.
use Rattle.std.specs.Prelude.{◌≡◌, ℕ, ◌<◌, ◌^◌, ◌⊎◌, List, [], ◌∷◌, ◌++◌, length, slice_get, Some}
use Rattle.finite_maps.specs.Map.{Map, get}
use Rattle.transcripts.proofs.OutcomeOrder.{outcome_order}
use Rattle.fact_books.specs.Entries.{Told}

-- a number for each outcome
abbrev pub ByOutcome : Type 0
ByOutcome = Map outcome_order ℕ

-- each has its own number, no other has one, and they are few
pub record AreNumbered (all : List Told) (by : ByOutcome) : Type 0 where
  pub each : (n : ℕ) (o : Told) → slice_get all n ≡ Some o → get by o ≡ Some n
  pub there : (n : ℕ) (o : Told) → get by o ≡ Some n → slice_get all n ≡ Some o
  pub few : length all < 2 ^ 32

-- the number of an outcome, which stands there, or stands behind the others now
pub record HasNumber (old new : List Told) (o : Told) (n : ℕ) : Type 0 where
  pub at : slice_get new n ≡ Some o
  pub grown : (new ≡ old) ⊎ ((n ≡ length old) × (new ≡ old ++ o ∷ []))
  pub few : length new < 2 ^ 32
