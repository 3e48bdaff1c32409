-- How numbers are kept. No public clause cites this module.
use Rattle.std.specs.Prelude.{◌≡◌, ℕ, List, ◌<◌, length, get_or, All}
use Rattle.std.specs.List.{Contains}
use Rattle.std.specs.List.Sorted.{IsStrictlySortedBy}
use Rattle.lock_modes.specs.Resource.{resource_cmp}
use Rattle.lock_modes.specs.declared.resource.Resource.{Resource}
use Rattle.bound_specs.specs.Spec.{Spec, Step}
use Rattle.numbered_specs.specs.declared.request.NumberedRequest.{NumberedRequest}
use Rattle.numbered_specs.specs.Numbers.{Numbers, HasNumber, ArePlans, plans_of}

abbrev pub numbers_of : List Resource → List (List (List NumberedRequest)) → Numbers
numbers_of resources plans = record { resources = resources; plans = plans }

abbrev pub HasRequest : List Resource → NumberedRequest → Type 0
HasRequest resources q = HasNumber resources q.resource

-- each number that is asked for is that of a resource, and resources rise
pub record IsKept (resources : List Resource) (plans : List (List (List NumberedRequest))) : Type 0 where
  pub rise : IsStrictlySortedBy resource_cmp resources
  pub known : All (All (All (HasRequest resources))) plans

-- all that these statements ask for is among the resources
abbrev pub AreThere : List Resource → List Resource → Type 0
AreThere resources asked = (r : Resource) → Contains asked r → Contains resources r

-- the plans of all steps
pub record AreStepPlans (resources : List Resource) (spec : Spec) (steps : List (List (List NumberedRequest))) : Type 0 where
  pub count : length steps ≡ length spec.steps
  pub each : (k : ℕ) (d : Step) → k < length spec.steps → ArePlans resources (get_or spec.steps k d).statements (plans_of steps k)
