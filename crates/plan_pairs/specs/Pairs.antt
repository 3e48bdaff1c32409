-- Which steps of a spec ask for modes that go together.
use Rattle.std.specs.Prelude.{◌≡◌, ℕ, ◌<◌, Bool, false, List, [], length, get_or}
use Rattle.bound_statements.specs.Plan.{Request}
use Rattle.bound_specs.specs.Spec.{Spec, no_step}
use Rattle.machine_model.specs.Claims.{plans}
use Rattle.rank_facts.specs.Quiet.{all_fit_together}

-- what a step asks for
abbrev pub asked_at : Spec → ℕ → List Request
asked_at spec step = plans (get_or spec.steps step no_step).statements

-- what a table of steps by steps says of two of them
abbrev pub together : List (List Bool) → ℕ → ℕ → Bool
together pairs first second = get_or (get_or pairs first []) second false

-- of each two steps of the spec the table says whether the modes that they ask for go together
abbrev pub ArePairs : Spec → List (List Bool) → Type 0
ArePairs spec pairs = (a b : ℕ) → a < length spec.steps → b < length spec.steps → together pairs a b ≡ all_fit_together (asked_at spec a) (asked_at spec b)
