-- Requests by numbers go together exactly where what they ask for does.
use Rattle.std.proofs.Common.{◌≡◌, ◌<◌, ◌∙◌, ◌⊎◌, ◌≢◌, refl, sym, ap, subst, arith, inl, inr, ℕ, suc, true, false, not, ◌||◌, ◌&&◌, ◌==◌}
use Rattle.std.proofs.Common.{List, [], ◌∷◌, ◌++◌, length, map, get_or, All}
use Rattle.std.specs.List.{list_all}
use Rattle.std.proofs.lemmas.Bool.{false_from_ne_true}
use Rattle.std.proofs.lemmas.Bool.Decides.{eqb_tells}
use Rattle.std.proofs.lemmas.List.{get_or-map, length-map, map-append}
use Rattle.std.proofs.lemmas.List.Elements.{All-append}
use Rattle.finite_maps.specs.Map.{same_key-refl, same_key-true}
use Rattle.lock_modes.specs.Mode.{compatible}
use Rattle.lock_modes.specs.Resource.{resource_order, same_resource}
use Rattle.lock_modes.specs.declared.resource.Resource.{Resource}
use Rattle.bound_statements.specs.declared.statement.Bound.{Bound}
use Rattle.bound_specs.specs.Spec.{Spec, no_step}
use Rattle.machine_model.specs.Claims.{plans}
use Rattle.rank_facts.specs.Quiet.{all_fit_together, fit_together}
use Rattle.numbered_specs.specs.Numbers.{ArePlans, HasNumber, IsNumbering, Numbers, place_of, plans_of, request_of, resource_of}
use Rattle.numbered_specs.specs.Places.{NumbersAreApart}
use Rattle.numbered_specs.specs.declared.request.NumberedRequest.{NumberedRequest}
use Rattle.numbered_specs.specs.declared.request.ResourceNumber.{ResourceNumber}
use Rattle.plan_pairs.specs.Pairs.{ArePairs}
use Rattle.plan_pairs.specs.Requests.{all_fit, fit, requests_in, row_of}

-- numbers of one resource are one
abbrev AreApart : List Resource → Type 0
AreApart rs = (i j : ResourceNumber) → HasNumber rs i → HasNumber rs j → resource_of rs i ≡ resource_of rs j → place_of i ≡ place_of j

abbrev HasRequest : List Resource → NumberedRequest → Type 0
HasRequest rs q = HasNumber rs q.resource

-- ---- two requests

same-at : (rs : List Resource) → AreApart rs → (i j : ResourceNumber) → HasNumber rs i → HasNumber rs j
    → (place_of i == place_of j) ≡ same_resource (resource_of rs i) (resource_of rs j)
same-at rs apart i j in_i in_j = by (eqb_tells (place_of i) (place_of j))
  where
    by : (((place_of i == place_of j) ≡ true) × (place_of i ≡ place_of j)) ⊎ (((place_of i == place_of j) ≡ false) × (place_of i ≢ place_of j))
        → (place_of i == place_of j) ≡ same_resource (resource_of rs i) (resource_of rs j)
    by (inl (is, same)) =
        is ∙ sym (subst (λ k. same_resource (resource_of rs i) k ≡ true) (ap (λ n. resource_of rs (record { index = n })) same)
        (same_key-refl resource_order (resource_of rs i)))
    by (inr (is, other)) =
        is ∙ sym (false_from_ne_true (same_resource (resource_of rs i) (resource_of rs j))
        (λ e. other (apart i j in_i in_j (same_key-true resource_order (resource_of rs i) (resource_of rs j) e))))

fit-same : (rs : List Resource) → AreApart rs → (q p : NumberedRequest) → HasRequest rs q → HasRequest rs p
    → fit q p ≡ fit_together (request_of rs q) (request_of rs p)
fit-same rs apart q p in_q in_p = ap (λ b. not b || compatible q.mode p.mode) (same-at rs apart q.resource p.resource in_q in_p)

-- ---- the requests of two steps

one-fits : (rs : List Resource) → AreApart rs → (q : NumberedRequest) (ps : List NumberedRequest) → HasRequest rs q → All (HasRequest rs) ps
    → list_all (fit q) ps ≡ list_all (fit_together (request_of rs q)) (map (request_of rs) ps)
one-fits rs apart q [] in_q all = refl
one-fits rs apart q (p ∷ ps) in_q all =
    λ i. fit-same rs apart q p in_q (all 0 p (omega arith)) i && one-fits rs apart q ps in_q (λ k d lt. all (suc k) d (omega (arith, lt))) i

all-fit : (rs : List Resource) → AreApart rs → (qs ps : List NumberedRequest) → All (HasRequest rs) qs → All (HasRequest rs) ps
    → all_fit qs ps ≡ all_fit_together (map (request_of rs) qs) (map (request_of rs) ps)
all-fit rs apart [] ps in_qs in_ps = refl
all-fit rs apart (q ∷ qs) ps in_qs in_ps =
    λ i. one-fits rs apart q ps (in_qs 0 q (omega arith)) in_ps i && all-fit rs apart qs ps (λ k d lt. in_qs (suc k) d (omega (arith, lt))) in_ps i

-- ---- the requests of a step's statements

less-one : (n m : ℕ) → suc n ≡ suc m → n ≡ m
less-one n m e = omega (arith, e)

flat-same : (rs : List Resource) (sts : List Bound) (ps : List (List NumberedRequest)) → ArePlans rs sts ps
    → map (request_of rs) (requests_in ps) ≡ plans sts
flat-same rs [] [] are = refl
flat-same rs [] (p ∷ ps) are = absurd (let e = are.0 in omega (arith, e))
flat-same rs (st ∷ sts) [] are = absurd (let e = are.0 in omega (arith, e))
flat-same rs (st ∷ sts) (p ∷ ps) are =
    map-append (request_of rs) p (requests_in ps)
    ∙ (λ i. (are.1 0 st (omega arith)).same i
    ++ flat-same rs sts ps (less-one (length ps) (length sts) are.0, λ k d lt. are.1 (suc k) d (omega (arith, lt))) i)

flat-known : (rs : List Resource) (sts : List Bound) (ps : List (List NumberedRequest)) → ArePlans rs sts ps → All (HasRequest rs) (requests_in ps)
flat-known rs [] [] are = λ k d lt. absurd (omega (arith, lt))
flat-known rs [] (p ∷ ps) are = absurd (let e = are.0 in omega (arith, e))
flat-known rs (st ∷ sts) [] are = absurd (let e = are.0 in omega (arith, e))
flat-known rs (st ∷ sts) (p ∷ ps) are =
    All-append (HasRequest rs) p (requests_in ps) (are.1 0 st (omega arith)).known
    (flat-known rs sts ps (less-one (length ps) (length sts) are.0, λ k d lt. are.1 (suc k) d (omega (arith, lt))))

-- ---- the table

pub table-is : (spec : Spec) (numbers : Numbers) → NumbersAreApart → IsNumbering spec numbers → (steps : List (List NumberedRequest))
    → steps ≡ map requests_in numbers.plans → ArePairs spec (map (λ qs. row_of qs steps) steps)
table-is spec numbers apart is steps are a b in_a in_b =
    let rs = numbers.resources in
    let count : length steps ≡ length spec.steps = ap length are ∙ length-map numbers.plans requests_in ∙ is.count in
    let lt_a : a < length steps = omega (arith, in_a, count) in
    let lt_b : b < length steps = omega (arith, in_b, count) in
    let more = is.count in
    let of_a : get_or steps a [] ≡ requests_in (plans_of numbers.plans a) =
    ap (λ l. get_or l a []) are ∙ get_or-map requests_in numbers.plans a [] [] (omega (arith, in_a, more)) in
    let of_b : get_or steps b [] ≡ requests_in (plans_of numbers.plans b) =
    ap (λ l. get_or l b []) are ∙ get_or-map requests_in numbers.plans b [] [] (omega (arith, in_b, more)) in
    let plans_a = is.plans a no_step in_a in
    let plans_b = is.plans b no_step in_b in
    ap (λ row. get_or row b false) (get_or-map (λ qs. row_of qs steps) steps a [] [] lt_a)
    ∙ get_or-map (all_fit (get_or steps a [])) steps b [] false lt_b
    ∙ (λ i. all_fit (of_a i) (of_b i))
    ∙ all-fit rs (apart spec numbers is) (requests_in (plans_of numbers.plans a)) (requests_in (plans_of numbers.plans b))
    (flat-known rs (get_or spec.steps a no_step).statements (plans_of numbers.plans a) plans_a)
    (flat-known rs (get_or spec.steps b no_step).statements (plans_of numbers.plans b) plans_b)
    ∙ (λ i. all_fit_together (flat-same rs (get_or spec.steps a no_step).statements (plans_of numbers.plans a) plans_a i)
    (flat-same rs (get_or spec.steps b no_step).statements (plans_of numbers.plans b) plans_b i))
