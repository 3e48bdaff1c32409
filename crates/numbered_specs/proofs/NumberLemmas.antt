-- The numbers of resources that rise, and plans over them.
use Rattle.std.proofs.Common.{◌≡◌, refl, sym, ap, ◌∙◌, subst, ℕ, ◌+◌, ◌<◌, ◌≤◌, List, [], ◌∷◌, ◌++◌, length, map, take, get_or, Some, None, All, ◌⊎◌, inl, inr, arith, Ordering, Less, Equal, Greater}
use Rattle.std.specs.Prelude.{Err}
use Rattle.std.specs.Ordering.{is_lt, ordering_reverse}
use Rattle.std.specs.List.{Contains, HoldsAt, slice_get}
use Rattle.std.specs.List.Sorted.{IsSorted, IsStrictlySortedBy, IsBinarySearchResult}
use Rattle.std.proofs.lemmas.Bool.{cases_eq, cases_lt}
use Rattle.std.proofs.lemmas.Option.{slice_get_within, get_or_from_slice_get}
use Rattle.std.proofs.lemmas.List.{take_all, map-append, get_or_default, get_or_push, get_or_append_left, length_push}
use Rattle.std.proofs.lemmas.List.Elements.{All-nil, All-push, at_from_Contains, Contains-append_right, Contains-get_or}
use Rattle.std.proofs.lemmas.List.Sorted.{searchable_from_sorted}
use Rattle.std.proofs.lemmas.Map.Keys.{Less-from_sorted}
use Rattle.lock_modes.specs.Resource.{resource_cmp, resource_total, resource_same}
use Rattle.lock_modes.specs.declared.resource.Resource.{Resource}
use Rattle.lock_modes.specs.declared.resource.Resource.TheVariants.{Table}
use Rattle.numbered_specs.specs.declared.request.NumberedRequest.{NumberedRequest}
use Rattle.numbered_specs.specs.Numbers.{asked_by, asked_in, blocks_of, plans_of, request_of, sent_by, ArePlans, HasNumber, IsPlan, NamesAll}
use Rattle.numbered_specs.specs.Kept.{AreStepPlans, AreThere, HasRequest, IsKept}
use Rattle.numbered_specs.proofs.AskedLemmas.{contains-given, contains-map, take-found, take-none}
use Rattle.lock_modes.specs.declared.mode.Mode.{Mode}
use Rattle.bound_statements.specs.declared.statement.Bound.{Bound}
use Rattle.bound_statements.specs.Plan.{Request, request, plan}
use Rattle.bound_specs.specs.Spec.{Spec, Step, no_step}
use Rattle.bound_statements.specs.declared.statement.Bound.TheVariants.{Begin}

rising-sorted : (rs : List Resource) → IsStrictlySortedBy resource_cmp rs → IsSorted resource_cmp rs
rising-sorted rs rise k d low lt =
    let less = Less-from_sorted resource_cmp rs k (k + 1) d rise (omega arith) lt in
    ap is_lt (resource_total.antisymm (get_or rs (k + 1) d) (get_or rs k d) ∙ ap ordering_reverse less)

itself : (o : Ordering) → o ≡ ordering_reverse o → o ≡ Equal
itself Less e = cc
itself Equal e = refl
itself Greater e = cc

less-equal : Less ≡ Equal → ⊥
less-equal e = cc

greater-equal : Greater ≡ Equal → ⊥
greater-equal e = cc

-- ---- looking a resource up

pub found : (rs : List Resource) (r : Resource) (i : ℕ) → HoldsAt (λ y. resource_cmp y r ≡ Equal) rs i → get_or rs i (Table 0) ≡ r
found rs r i at = resource_same _ _ (at (Table 0))

pub not-found : (rs : List Resource) (r : Resource) (i : ℕ) → IsStrictlySortedBy resource_cmp rs → IsBinarySearchResult (λ y. resource_cmp y r) rs (Err i)
    → Contains rs r → ⊥
not-found rs r i rise h c = on (cases_lt at.0 i)
  where
    at : (k : ℕ) × (k < length rs) × HoldsAt (λ y. y ≡ r) rs k
    at = at_from_Contains rs r c

    there : resource_cmp (get_or rs at.0 r) r ≡ Equal
    there = ap (λ x. resource_cmp x r) (at.2 r) ∙ itself (resource_cmp r r) (resource_total.antisymm r r)

    on : (at.0 < i) ⊎ (i ≤ at.0) → ⊥
    on (inl lt) =
        let parts = h (searchable_from_sorted resource_total (λ (x : Resource). x) rs r (rising-sorted rs rise)) in
        less-equal (sym (parts.0 at.0 r (omega arith) lt) ∙ there)
    on (inr le) =
        let parts = h (searchable_from_sorted resource_total (λ (x : Resource). x) rs r (rising-sorted rs rise)) in
        greater-equal (sym (parts.1 at.0 r le at.1) ∙ there)

-- ---- plans

-- the first so many requests of a plan are numbered
pub record IsPlanTo (resources : List Resource) (st : Bound) (n : ℕ) (requests : List NumberedRequest) : Type 0 where
  pub known : All (λ (q : NumberedRequest). HasNumber resources q.resource) requests
  pub same : map (request_of resources) requests ≡ take n (plan st)

pub plan-start : (rs : List Resource) (st : Bound) → IsPlanTo rs st 0 []
plan-start rs st = record { known = All-nil (λ (q : NumberedRequest). HasNumber rs q.resource); same = refl }

pub plan-push : (rs : List Resource) (st : Bound) (n : ℕ) (requests : List NumberedRequest) (q : NumberedRequest) → HasNumber rs q.resource
    → slice_get (plan st) n ≡ Some (request_of rs q) → IsPlanTo rs st n requests → IsPlanTo rs st (n + 1) (requests ++ q ∷ [])
plan-push rs st n requests q has is k = record {
  known = All-push (λ (p : NumberedRequest). HasNumber rs p.resource) requests q k.known has;
  same = map-append (request_of rs) requests (q ∷ []) ∙ ap (λ qs. qs ++ request_of rs q ∷ []) k.same ∙ sym (take-found (plan st) n (request_of rs q) is);
}

pub plan-none : (rs : List Resource) (st : Bound) (n : ℕ) (requests : List NumberedRequest) → slice_get (plan st) n ≡ None → IsPlanTo rs st n requests
    → IsPlan rs st requests
plan-none rs st n requests none k = record { known = k.known; same = k.same ∙ take-none (plan st) n none }

pub plan-end : (rs : List Resource) (st : Bound) (n : ℕ) (requests : List NumberedRequest) → length (plan st) ≤ n → IsPlanTo rs st n requests
    → IsPlan rs st requests
plan-end rs st n requests past k = record { known = k.known; same = k.same ∙ take_all n (plan st) past }

-- what a request of a plan asks for is asked for by the statement
pub asks-it : (rs : List Resource) (st : Bound) (n : ℕ) (r : Resource) (m : Mode) → slice_get (plan st) n ≡ Some (request r m)
    → AreThere rs (asked_by st) → Contains rs r
asks-it rs st n r m is there = there r (contains-map (λ (q : Request). q.resource) (plan st) (request r m)
    (n, slice_get_within (plan st) n (request r m) is, get_or_from_slice_get (plan st) n (request r m) (request r m) is))

-- what a statement asks for is asked for by its step, and so by its spec
pub there-of : (rs : List Resource) (sts : List Bound) (i : ℕ) (st d : Bound) → i < length sts → st ≡ get_or sts i d → AreThere rs (asked_in sts)
    → AreThere rs (asked_by st)
there-of rs sts i st d lt is there r c = there r (contains-given asked_by sts st r (i, lt, get_or_default sts i st d lt ∙ sym is) c)

pub there-in : (rs : List Resource) (spec : Spec) (k : ℕ) (d : Step) → k < length spec.steps → NamesAll spec rs
    → AreThere rs (asked_in (get_or spec.steps k d).statements)
there-in rs spec k d lt names r c =
    (names.asked r).1 (contains-given asked_in (blocks_of spec) (get_or spec.steps k d).statements r
    (in-blocks (contains-map sent_by spec.steps (get_or spec.steps k d) (Contains-get_or spec.steps k d lt))) c)
  where
    in-blocks : Contains (map sent_by spec.steps) (get_or spec.steps k d).statements → Contains (blocks_of spec) (get_or spec.steps k d).statements
    in-blocks h = Contains-append_right spec.setups _ _ (Contains-append_right spec.session_setups _ _ h)

-- ---- plans of steps

-- the first so many statements have their plans
pub record ArePlansTo (resources : List Resource) (sts : List Bound) (n : ℕ) (plans : List (List NumberedRequest)) : Type 0 where
  pub count : length plans ≡ n
  pub each : (i : ℕ) (st : Bound) → i < n → IsPlan resources (get_or sts i st) (get_or plans i [])

pub plans-start : (rs : List Resource) (sts : List Bound) → ArePlansTo rs sts 0 []
plans-start rs sts = record { count = refl; each = λ i st lt. absurd (omega (arith, lt)) }

pub plans-push : (rs : List Resource) (sts : List Bound) (n : ℕ) (plans : List (List NumberedRequest)) (st d : Bound) (p : List NumberedRequest)
    → n < length sts → st ≡ get_or sts n d → IsPlan rs st p → ArePlansTo rs sts n plans → ArePlansTo rs sts (n + 1) (plans ++ p ∷ [])
plans-push rs sts n plans st d p inside is plan-of k = record {
  count = let long = length_push plans p in let c = k.count in omega (arith, long, c);
  each = λ i e lt. each i e lt (cases_eq i n);
}
  where
    each : (i : ℕ) (e : Bound) → i < n + 1 → (i ≡ n) ⊎ (i ≡ n → ⊥) → IsPlan rs (get_or sts i e) (get_or (plans ++ p ∷ []) i [])
    each i e lt (inl same) = subst (λ j. IsPlan rs (get_or sts j e) (get_or (plans ++ p ∷ []) j [])) (sym same)
        (subst (λ x. IsPlan rs x (get_or (plans ++ p ∷ []) n [])) (is ∙ get_or_default sts n d e inside)
        (subst (IsPlan rs st) (sym (get_or_push plans p [] n k.count)) plan-of))
    each i e lt (inr other) =
        let c = k.count in
        let below : i < n = omega (arith, lt, other) in
        subst (IsPlan rs (get_or sts i e)) (sym (get_or_append_left plans (p ∷ []) [] i (omega (arith, c, below)))) (k.each i e below)

pub plans-end : (rs : List Resource) (sts : List Bound) (n : ℕ) (plans : List (List NumberedRequest)) → n ≡ length sts → ArePlansTo rs sts n plans
    → ArePlans rs sts plans
plans-end rs sts n plans e k = (k.count ∙ e, λ i st lt. k.each i st (subst (λ m. i < m) (sym e) lt))

-- the first so many steps have theirs
pub record AreStepsTo (resources : List Resource) (spec : Spec) (n : ℕ) (steps : List (List (List NumberedRequest))) : Type 0 where
  pub count : length steps ≡ n
  pub each : (k : ℕ) (d : Step) → k < n → ArePlans resources (get_or spec.steps k d).statements (plans_of steps k)

pub steps-push : (rs : List Resource) (spec : Spec) (k : ℕ) (steps : List (List (List NumberedRequest))) (sts : List Bound) (d : Step)
    (plans : List (List NumberedRequest)) → k < length spec.steps → sts ≡ (get_or spec.steps k d).statements → ArePlans rs sts plans → AreStepsTo rs spec k steps
    → AreStepsTo rs spec (k + 1) (steps ++ plans ∷ [])
steps-push rs spec k steps sts d plans inside is those h = record {
  count = let long = length_push steps plans in let c = h.count in omega (arith, long, c);
  each = λ i e lt. each i e lt (cases_eq i k);
}
  where
    each : (i : ℕ) (e : Step) → i < k + 1 → (i ≡ k) ⊎ (i ≡ k → ⊥) → ArePlans rs (get_or spec.steps i e).statements (plans_of (steps ++ plans ∷ []) i)
    each i e lt (inl same) = subst (λ j. ArePlans rs (get_or spec.steps j e).statements (plans_of (steps ++ plans ∷ []) j)) (sym same)
        (subst (λ x. ArePlans rs x (plans_of (steps ++ plans ∷ []) k)) (is ∙ ap (λ (s : Step). s.statements) (get_or_default spec.steps k d e inside))
        (subst (ArePlans rs sts) (sym (get_or_push steps plans [] k h.count)) those))
    each i e lt (inr other) =
        let c = h.count in
        let below : i < k = omega (arith, lt, other) in
        subst (ArePlans rs (get_or spec.steps i e).statements) (sym (get_or_append_left steps (plans ∷ []) [] i (omega (arith, c, below)))) (h.each i e below)

-- each number is that of a resource
pub kept : (rs : List Resource) (spec : Spec) (steps : List (List (List NumberedRequest))) → NamesAll spec rs → AreStepPlans rs spec steps → IsKept rs steps
kept rs spec steps names are = record { rise = names.rise; known = known }
  where
    known : All (All (All (HasRequest rs))) steps
    known k d lt i e inside =
        let count = are.count in
        let step-plans = are.each k no_step (omega (arith, count, lt)) in
        let same : get_or steps k d ≡ plans_of steps k = get_or_default steps k d [] lt in
        let within : i < length (plans_of steps k) = subst (λ ps. i < length ps) same inside in
        let sent = step-plans.0 in
        subst (λ ps. All (HasRequest rs) (get_or ps i e)) (sym same)
        (subst (All (HasRequest rs)) (sym (get_or_default (plans_of steps k) i e [] within)) (step-plans.1 i (Begin None) (omega (arith, sent, within))).known)
