-- What a step asks for is what its statements' plans by numbers ask for.
use Rattle.std.specs.List.{list_all}
use Rattle.std.proofs.Common.{◌≡◌, ◌≢◌, ◌<◌, ◌≤◌, ◌∙◌, ◌⊎◌, refl, sym, ap, subst, inl, inr, arith, ℕ, suc}
use Rattle.std.proofs.Common.{Bool, true, false, not, ◌&&◌, ◌==◌, List, [], ◌∷◌, length, map, take, get_or, All, None}
use Rattle.std.proofs.lemmas.Bool.{false_from_ne_true}
use Rattle.std.proofs.lemmas.Bool.Decides.{eqb_tells}
use Rattle.std.proofs.lemmas.List.{take_all}
use Rattle.std.proofs.lemmas.List.Folds.{list_all-append, list_all_at}
use Rattle.finite_maps.specs.Map.{same_key-refl, same_key-true}
use Rattle.lock_modes.specs.Resource.{resource_order, same_resource}
use Rattle.lock_modes.specs.declared.resource.Resource.{Resource}
use Rattle.bound_statements.specs.declared.statement.Bound.{Bound}
use Rattle.bound_statements.specs.declared.statement.Bound.TheVariants.{Begin}
use Rattle.bound_statements.specs.Plan.{Request, plan}
use Rattle.bound_specs.specs.Spec.{Spec, no_step}
use Rattle.machine_model.specs.Claims.{plans}
use Rattle.numbered_specs.specs.Numbers.{ArePlans, HasNumber, IsNumbering, Numbers, place_of, plans_of, request_of, resource_of}
use Rattle.numbered_specs.specs.Places.{NumbersAreApart}
use Rattle.numbered_specs.specs.declared.request.NumberedRequest.{NumberedRequest}
use Rattle.numbered_specs.specs.declared.request.ResourceNumber.{ResourceNumber}
use Rattle.plan_pairs.specs.Pairs.{asked_at}
use Rattle.marked_quiet.specs.Asked.{HasRequest, has_other_number, is_elsewhere}

-- ---- a test of all items, one after another

module _ {A : Type 0} (test : A → Bool) (xs : List A) (n : ℕ) where
  -- all pass where those so far do and no other is left
  pub all-so-far : length xs ≤ n → list_all test (take n xs) ≡ true → true ≡ list_all test xs
  all-so-far le all = sym (sym (ap (list_all test) (take_all n xs le)) ∙ all)

  -- one that fails is enough
  pub one-fails : (d : A) → n < length xs → test (get_or xs n d) ≡ false → false ≡ list_all test xs
  one-fails d lt fails = sym (list_all_at test xs n d lt fails)

-- ---- the plans of a step's statements

less-one : (n m : ℕ) → suc n ≡ suc m → n ≡ m
less-one n m e = omega (arith, e)

-- each request of a plan by numbers passes
abbrev pub passes : (Request → Bool) → List Resource → List NumberedRequest → Bool
passes test rs qs = list_all test (map (request_of rs) qs)

all-plans : (test : Request → Bool) (rs : List Resource) (sts : List Bound) (ps : List (List NumberedRequest)) → ArePlans rs sts ps
    → list_all (passes test rs) ps ≡ list_all test (plans sts)
all-plans test rs [] [] are = refl
all-plans test rs [] (p ∷ ps) are = absurd (let e = are.0 in omega (arith, e))
all-plans test rs (st ∷ sts) [] are = absurd (let e = are.0 in omega (arith, e))
all-plans test rs (st ∷ sts) (p ∷ ps) are =
    (λ i. list_all test ((are.1 0 st (omega arith)).same i)
    && all-plans test rs sts ps (less-one (length ps) (length sts) are.0, λ k d lt. are.1 (suc k) d (omega (arith, lt))) i)
    ∙ sym (list_all-append test (plan st) (plans sts))

module _ (spec : Spec) (numbers : Numbers) (is : IsNumbering spec numbers) (step : ℕ) (inside : step < length spec.steps) where
  are : ArePlans numbers.resources (get_or spec.steps step no_step).statements (plans_of numbers.plans step)
  are = is.plans step no_step inside

  -- all that the step asks for passes where each plan does
  pub asked-passes : (test : Request → Bool) → list_all (passes test numbers.resources) (plans_of numbers.plans step) ≡ list_all test (asked_at spec step)
  asked-passes test = all-plans test numbers.resources (get_or spec.steps step no_step).statements (plans_of numbers.plans step) are

  -- there is a plan for each statement
  pub count-plans : length (plans_of numbers.plans step) ≡ length (get_or spec.steps step no_step).statements
  count-plans = are.0

  -- what a plan asks for has numbers
  pub plan-known : (k : ℕ) → k < length (plans_of numbers.plans step) → All (HasRequest numbers.resources) (get_or (plans_of numbers.plans step) k [])
  plan-known k lt = (are.1 k (Begin None) (let e = are.0 in omega (arith, e, lt))).known

-- ---- requests for another resource

module _ (spec : Spec) (numbers : Numbers) (apart : NumbersAreApart) (is : IsNumbering spec numbers) (number : ResourceNumber)
    (here : HasNumber numbers.resources number) where
  abbrev rs : List Resource
  rs = numbers.resources

  same-at : (other : ResourceNumber) → HasNumber rs other
      → (place_of number == place_of other) ≡ same_resource (resource_of rs number) (resource_of rs other)
  same-at other there = by (eqb_tells (place_of number) (place_of other))
    where
      by : (((place_of number == place_of other) ≡ true) × (place_of number ≡ place_of other))
          ⊎ (((place_of number == place_of other) ≡ false) × (place_of number ≢ place_of other))
          → (place_of number == place_of other) ≡ same_resource (resource_of rs number) (resource_of rs other)
      by (inl (alike, same)) =
          alike ∙ sym (subst (λ r. same_resource (resource_of rs number) r ≡ true) (ap (λ n. resource_of rs (record { index = n })) same)
          (same_key-refl resource_order (resource_of rs number)))
      by (inr (unlike, differ)) =
          unlike ∙ sym (false_from_ne_true (same_resource (resource_of rs number) (resource_of rs other))
          (λ e. differ (apart spec numbers is number other here there
          (same_key-true resource_order (resource_of rs number) (resource_of rs other) e))))

  pub elsewhere-same : (qs : List NumberedRequest) → All (HasRequest rs) qs
      → list_all (has_other_number number) qs ≡ passes (is_elsewhere (resource_of rs number)) rs qs
  elsewhere-same [] all = refl
  elsewhere-same (q ∷ qs) all =
      λ i. not (same-at q.resource (all 0 q (omega arith)) i) && elsewhere-same qs (λ k d lt. all (suc k) d (omega (arith, lt))) i
