-- The values that a set of facts gives to ranks.
use Rattle.std.specs.Prelude.{◌≡◌, ℕ, ◌<◌, Bool, true, List, Option, Some}
use Rattle.bound_specs.specs.Spec.{Spec, line_of, ranks}
use Rattle.events.specs.declared.event.Event.{Event}
use Rattle.machine_model.specs.Outcome.{outcome_of_line}
use Rattle.rank_facts.specs.Swap.{leads_in}
use Rattle.rank_facts.specs.Facts.{IsTrueAt}
use Rattle.rank_facts.specs.declared.fact.Fact.{Fact}
use Rattle.rank_facts.specs.declared.fact.Fact.TheVariants.{Ran, Swap}

-- a set of facts: whether a rank has a fact
abbrev pub Facts : Type 0
Facts = ℕ → Fact → Bool

-- the values of a rank: the outcomes recorded there, and the values of each rank to which a recorded swap leads
pub data IsValue (has : ℕ → Fact → Bool) (leads : ℕ → ℕ → Option ℕ) : ℕ → List (List Event) → Type 0 where
  ran : {r : ℕ} {outcome : List (List Event)} → has r (Ran outcome) ≡ true → IsValue has leads r outcome
  swap : {r k below : ℕ} {outcome : List (List Event)} → has r (Swap k) ≡ true → leads r k ≡ Some below → IsValue has leads below outcome
      → IsValue has leads r outcome

abbrev pub AllTrue : Spec → Facts → Type 0
AllTrue spec has = (r : ℕ) (fact : Fact) → has r fact ≡ true → IsTrueAt spec r fact

-- each rank of the spec has a fact
abbrev pub CoverEachRank : Spec → Facts → Type 0
CoverEachRank spec has = (r : ℕ) → r < ranks spec → (fact : Fact) × (has r fact ≡ true)

-- the facts tell what the sequential machine tells: no rank has another value than its outcome, and where each rank has a fact each has its outcome as a value
pub record TellTheMachine (spec : Spec) (has : Facts) : Type 0 where
  pub never_another : (r : ℕ) (outcome : List (List Event)) → IsValue has (leads_in spec) r outcome → outcome_of_line spec (line_of spec r) ≡ Some outcome
  pub each_has_one : CoverEachRank spec has → (r : ℕ) → r < ranks spec → (outcome : List (List Event)) × IsValue has (leads_in spec) r outcome
