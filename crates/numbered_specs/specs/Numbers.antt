-- Numbers for the resources that a spec's statements ask for, and lock plans over them.
use Rattle.std.specs.Prelude.{◌≡◌, ℕ, ◌<◌, ◌↔◌, List, [], ◌++◌, length, map, get_or, All}
use Rattle.std.specs.List.{Contains, flat_map}
use Rattle.std.specs.List.Sorted.{IsStrictlySortedBy}
use Rattle.lock_modes.specs.Resource.{resource_cmp}
use Rattle.lock_modes.specs.declared.resource.Resource.{Resource}
use Rattle.lock_modes.specs.declared.resource.Resource.TheVariants.{Table}
use Rattle.bound_statements.specs.declared.statement.Bound.{Bound}
use Rattle.bound_statements.specs.Plan.{Request, request, plan}
use Rattle.bound_specs.specs.Spec.{Spec, Step}
use Rattle.numbered_specs.specs.declared.request.ResourceNumber.{ResourceNumber}
use Rattle.numbered_specs.specs.declared.request.NumberedRequest.{NumberedRequest}

-- the resources of a spec, and of each statement of each step what it asks for by their numbers
pub record Numbers : Type 0 where
  pub resources : List Resource
  pub plans : List (List (List NumberedRequest))

-- ---- numbers

abbrev pub place_of : ResourceNumber → ℕ
place_of number = number.index

abbrev pub HasNumber : List Resource → ResourceNumber → Type 0
HasNumber resources number = place_of number < length resources

-- the resource with a number
abbrev pub resource_of : List Resource → ResourceNumber → Resource
resource_of resources number = get_or resources (place_of number) (Table 0)

-- what a request by number asks for
abbrev pub request_of : List Resource → NumberedRequest → Request
request_of resources q = request (resource_of resources q.resource) q.mode

-- the requests by number are those of the statement's lock plan
pub record IsPlan (resources : List Resource) (st : Bound) (requests : List NumberedRequest) : Type 0 where
  pub known : All (λ (q : NumberedRequest). HasNumber resources q.resource) requests
  pub same : map (request_of resources) requests ≡ plan st

-- the same of each statement of a step, and of each step
abbrev pub ArePlans : List Resource → List Bound → List (List NumberedRequest) → Type 0
ArePlans resources sts plans = (length plans ≡ length sts)
    × ((i : ℕ) (st : Bound) → i < length sts → IsPlan resources (get_or sts i st) (get_or plans i []))

abbrev pub plans_of : List (List (List NumberedRequest)) → ℕ → List (List NumberedRequest)
plans_of plans step = get_or plans step []

-- ---- what a spec's statements ask for

abbrev pub asked_by : Bound → List Resource
asked_by st = map (λ (q : Request). q.resource) (plan st)

abbrev pub asked_in : List Bound → List Resource
asked_in sts = flat_map asked_by sts

abbrev pub asked_of : List (List Bound) → List Resource
asked_of blocks = flat_map asked_in blocks

abbrev pub sent_by : Step → List Bound
sent_by step = step.statements

-- the blocks of a spec: its setups, the setups of its sessions, and what its steps send
abbrev pub blocks_of : Spec → List (List Bound)
blocks_of spec = spec.setups ++ (spec.session_setups ++ map sent_by spec.steps)

-- exactly the resources that some statement of the spec asks for, each once, in their order
pub record NamesAll (spec : Spec) (resources : List Resource) : Type 0 where
  pub rise : IsStrictlySortedBy resource_cmp resources
  pub asked : (r : Resource) → Contains resources r ↔ Contains (asked_of (blocks_of spec)) r

-- the numbers of a spec
pub record IsNumbering (spec : Spec) (numbers : Numbers) : Type 0 where
  pub names : NamesAll spec numbers.resources
  pub count : length numbers.plans ≡ length spec.steps
  pub plans : (k : ℕ) (d : Step) → k < length spec.steps → ArePlans numbers.resources (get_or spec.steps k d).statements (plans_of numbers.plans k)
