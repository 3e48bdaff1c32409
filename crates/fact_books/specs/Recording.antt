-- Runs that come from elsewhere: what they need to stand in a book.
use Rattle.std.specs.Prelude.{◌≡◌, ℕ, ◌<◌, ◌≤◌, Bool, true, false, List, [], ◌∷◌, Some}
use Rattle.bound_specs.specs.Spec.{Spec}
use Rattle.fact_books.specs.declared.leading.Lead.{Lead}
use Rattle.fact_books.specs.declared.leading.Lead.TheVariants.{Value, From, Nowhere}
use Rattle.fact_books.specs.declared.run.Run.{Run}
use Rattle.fact_books.specs.Runs.{Table, fact_in}
use Rattle.fact_books.specs.Books.{IsRecordable}
use Rattle.fact_books.specs.Values.{Leads}

-- from each of these ranks the exchange at k leads to a rank
abbrev pub LeadsAlong : Leads → ℕ → ℕ → ℕ → Type 0
LeadsAlong leads k first end = (r : ℕ) → first ≤ r → r < end → (below : ℕ) × (leads r k ≡ Some below)

abbrev pub EachRun : (Run → Type 0) → List Run → Type 0
EachRun P [] = Unit {0}
EachRun P (run ∷ runs) = P run × EachRun P runs

-- what the run says of each of its ranks may stand in a book of the spec
abbrev pub IsRecordableRun : Spec → Table → Run → Type 0
IsRecordableRun spec table run = (r : ℕ) → run.first ≤ r → r < run.end → IsRecordable spec r (fact_in table run.tag)

abbrev pub is_from : Lead → Bool
is_from (Value n) = false
is_from (From b) = true
is_from Nowhere = false
