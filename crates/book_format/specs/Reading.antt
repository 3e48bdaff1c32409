-- How a first refusal is told, and what JSON values are as the outcomes of a spec.
use Rattle.std.specs.Prelude.{◌≡◌, ℕ, ◌-◌, List, [], ◌∷◌, ◌++◌, length, map, Option, Some, option_and_then, slice_get, Result, Ok, Err, ◌⊎◌}
use Rattle.serde_json.specs.Data.{Data, Items, no_items, item}
use Rattle.serde_json.specs.Find.{as_number, as_u64}
use Rattle.serde_json.specs.View.{items_of}
use Rattle.transcripts.specs.Outcome.{OutcomeFits}
use Rattle.transcripts.specs.Json.{outcome_data}
use Rattle.machine_model.specs.Outcome.{IsOutcomeOf}
use Rattle.bound_specs.specs.Spec.{Spec}
use Rattle.fact_books.specs.Entries.{Told}
use Rattle.fact_books.specs.Runs.{Table}
use Rattle.book_format.specs.declared.error.BookError.{BookError}
use Rattle.book_format.specs.declared.error.BookError.TheVariants.{NotJson, BadField, BadVersion, BadSpec, BadRank, OutOfOrder, BadSwap, TooLarge, NoMemory}
use Rattle.book_format.specs.declared.error.BookError.TheVariants.{ReadFault}
use Rattle.book_format.specs.Forms.{ComesBefore}

abbrev pub Read : Type 0 → Type 0
Read X = Result X BookError

-- it goes on where this holds, and is refused where it does not
abbrev pub Unless : {X : Type 0} → Type 0 → BookError → (Read X → Type 0) → Read X → Type 0
Unless P e Q r = (P × Q r) ⊎ ((P → ⊥) × (r ≡ Err e))

-- it goes on with what has the property, and is refused where nothing has it
abbrev pub Given : {A X : Type 0} → BookError → (A → Type 0) → (A → Read X → Type 0) → Read X → Type 0
Given {A = A} e P Q r = ((a : A) × P a × Q a r) ⊎ (((a : A) → P a → ⊥) × (r ≡ Err e))

-- it goes on with what is read first, and is refused where that is
abbrev pub Then : {A X : Type 0} → (Read A → Type 0) → (A → Read X → Type 0) → Read X → Type 0
Then {A = A} P Q r = ((a : A) × P (Ok a) × Q a r) ⊎ ((e : BookError) × P (Err e) × (r ≡ Err e))

-- nothing is refused any more
abbrev pub Gives : {X : Type 0} → X → Read X → Type 0
Gives x r = r ≡ Ok x

-- the answer is what is read, as contracts see it, unless memory ran out
abbrev pub Meets : {X Y : Type 0} → (X → Y) → (Read Y → Type 0) → Read X → Type 0
Meets seen P (Ok x) = P (Ok (seen x))
Meets seen P (Err e) = P (Err e) ⊎ (e ≡ NoMemory)

-- the number that a refusal has in fault lines
abbrev pub book_number_of : BookError → ℕ
book_number_of NotJson = 1
book_number_of BadField = 2
book_number_of BadVersion = 3
book_number_of BadSpec = 4
book_number_of BadRank = 5
book_number_of OutOfOrder = 6
book_number_of BadSwap = 7
book_number_of TooLarge = 8
book_number_of NoMemory = 9
book_number_of ReadFault = 10

-- a whole number from 0
abbrev pub whole_in : Data → Option ℕ
whole_in d = option_and_then as_u64 (as_number d)

abbrev pub last : {X : Type 0} → List X → Option X
last xs = slice_get xs (length xs - 1)

-- it stands so to the last of those before it, if there is one
abbrev pub StandsAfter : {X : Type 0} → (X → X → Type 0) → List X → X → Type 0
StandsAfter {X = X} R before x = (l : X) → last before ≡ Some l → R l x

-- ---- outcomes

-- the value is that of an outcome which a run of the spec may tell
pub record IsOutcomeValue (spec : Spec) (d : Data) (outcome : Told) : Type 0 where
  pub value : outcome_data outcome ≡ d
  pub fits : OutcomeFits outcome
  pub own : IsOutcomeOf spec outcome

abbrev pub IsOutcome : Spec → Data → Read Told → Type 0
IsOutcome spec d = Given BadField (IsOutcomeValue spec d) Gives

-- the next outcome, whose text comes after that of the last one
abbrev pub IsNextOutcome : Spec → Table → Data → Read Told → Type 0
IsNextOutcome spec before d = Given BadField (IsOutcomeValue spec d) (λ outcome. Unless (StandsAfter ComesBefore before outcome) OutOfOrder (Gives outcome))

-- outcomes behind those that are read
abbrev pub AreOutcomes : Spec → Table → Items → Read Table → Type 0
AreOutcomes spec before no_items = Gives before
AreOutcomes spec before (item d ds) = Then (IsNextOutcome spec before d) (λ outcome. AreOutcomes spec (before ++ outcome ∷ []) ds)

-- these outcomes may be told by runs of the spec, and rise by their texts: their values are read as these
abbrev pub IsListed : Spec → Table → Type 0
IsListed spec table = AreOutcomes spec [] (items_of (map outcome_data table)) (Ok table)
