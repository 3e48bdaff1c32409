-- Waits by the numbers of resources, seen as waits for these resources.
use Rattle.std.specs.Prelude.{◌≡◌, ◌≢◌, refl, ℕ, ◌+◌, ◌<◌, Bool, true, false, cond, not, ◌==◌, ◌&&◌, ◌||◌, Option, List, [], ◌∷◌, ◌++◌}
use Rattle.std.specs.Prelude.{length, get_or, take, drop, filter, All}
use Rattle.std.proofs.Common.{sym, ap, ◌∙◌, subst, arith, ⊎_elim}
use Rattle.std.specs.Ordering.{is_eq}
use Rattle.std.specs.declared.cmp.Ordering.TheVariants.{Less}
use Rattle.std.specs.List.{list_all, list_any}
use Rattle.std.specs.List.Sorted.{IsStrictlySortedBy}
use Rattle.std.proofs.lemmas.Bool.{cases_lt, false_from_ne_true}
use Rattle.std.proofs.lemmas.Bool.Decides.{eqb_tells}
use Rattle.std.proofs.lemmas.List.{drop_more, length-map, length-take-le, map-append, take-append-drop}
use Rattle.std.proofs.lemmas.List.Elements.{All-drop, All-get_or, All-head, All-tail, All-take}
use Rattle.std.proofs.lemmas.List.Folds.{list_any-append}
use Rattle.std.proofs.lemmas.Map.Keys.{Less-from_sorted}
use Rattle.finite_maps.specs.Map.{same_key-refl, same_key-true}
use Rattle.lock_modes.specs.Resource.{resource_cmp, resource_order, same_resource}
use Rattle.lock_modes.specs.declared.resource.Resource.{Resource}
use Rattle.lock_modes.specs.declared.resource.Resource.TheVariants.{Table}
use Rattle.lock_queues.specs.declared.wait.Wait.{Wait}
use Rattle.lock_queues.specs.Locks.{Look, Spot, ahead, converts, nobody_waits, waits_now}
use Rattle.lock_queues.specs.Rules.{IsSpot}
use Rattle.numbered_specs.specs.Numbers.{HasNumber, place_of, resource_of}
use Rattle.numbered_specs.specs.declared.request.ResourceNumber.{ResourceNumber}
use Rattle.marked_locks.specs.Queued.{wait_of, waits_of}
use Rattle.marked_locks.specs.Kept.{AreKnown, IsKnown}
use Rattle.marked_locks.specs.Places.{is_of, no_wait, spot_at, stands}
use Rattle.marked_locks.specs.declared.wait.NumberedWait.{NumberedWait}

and-one : (b : Bool) → (b && true) ≡ b
and-one true = refl
and-one false = refl

and-false : (b : Bool) → (b && false) ≡ false
and-false true = refl
and-false false = refl

-- ---- numbers

-- two numbers are of one resource where they are one
pub same-number : (rs : List Resource) (i j : ResourceNumber) → IsStrictlySortedBy resource_cmp rs → HasNumber rs i → HasNumber rs j
    → same_resource (resource_of rs i) (resource_of rs j) ≡ (place_of i == place_of j)
same-number rs i j rise li lj = ⊎_elim same other (eqb_tells (place_of i) (place_of j))
  where
    same : ((place_of i == place_of j) ≡ true) × (place_of i ≡ place_of j) → same_resource (resource_of rs i) (resource_of rs j) ≡ (place_of i == place_of j)
    same e =
        subst (λ k. same_resource (get_or rs (place_of i) (Table 0)) (get_or rs k (Table 0)) ≡ true) e.1 (same_key-refl resource_order (resource_of rs i))
        ∙ sym e.0

    less : (p q : ℕ) → p < q → q < length rs → get_or rs p (Table 0) ≡ get_or rs q (Table 0) → ⊥
    less p q lt inside e =
        let below = Less-from_sorted resource_cmp rs p q (Table 0) rise lt inside in
        let itself : resource_cmp (get_or rs p (Table 0)) (get_or rs p (Table 0)) ≡ Less =
        subst (λ r. resource_cmp (get_or rs p (Table 0)) r ≡ Less) (sym e) below in
        let equal : is_eq (resource_cmp (get_or rs p (Table 0)) (get_or rs p (Table 0))) ≡ true = same_key-refl resource_order (get_or rs p (Table 0)) in
        let never : false ≡ true = sym (ap is_eq itself) ∙ equal in
        cc

    other : ((place_of i == place_of j) ≡ false) × (place_of i ≢ place_of j) → same_resource (resource_of rs i) (resource_of rs j) ≡ (place_of i == place_of j)
    other e =
        false_from_ne_true _ (λ h.
        let one : resource_of rs i ≡ resource_of rs j = same_key-true resource_order _ _ h in
        ⊎_elim (λ lt. less (place_of i) (place_of j) lt lj one)
        (λ le. let ne = e.1 in less (place_of j) (place_of i) (omega (arith, le, ne)) li (sym one)) (cases_lt (place_of i) (place_of j)))
        ∙ sym e.0

-- ---- lists of waits

-- who waits
pub waiting-seen : (rs : List Resource) (ws : List NumberedWait) (b : ℕ)
    → waits_now (waits_of rs ws) b ≡ list_any (λ (w : NumberedWait). w.session == b) ws
waiting-seen rs [] b = refl
waiting-seen rs (w ∷ ws) b = ap (λ x. (w.session == b) || x) (waiting-seen rs ws b)

-- whether nobody waits for a resource
pub nobody-seen : (rs : List Resource) (ws : List NumberedWait) (n : ResourceNumber) → IsStrictlySortedBy resource_cmp rs → HasNumber rs n
    → All (IsKnown rs) ws → nobody_waits (waits_of rs ws) (resource_of rs n) ≡ list_all (λ (w : NumberedWait). not (place_of w.resource == place_of n)) ws
nobody-seen rs [] n rise has all = refl
nobody-seen rs (w ∷ ws) n rise has all =
    let here = same-number rs w.resource n rise (All-head (IsKnown rs) w ws all).number has in
    let rest = nobody-seen rs ws n rise has (All-tail (IsKnown rs) w ws all) in
    λ i. not (here i) && rest i

-- a search through waits of a kind is one through waits by number
any-seen : (rs : List Resource) (kind test : Wait → Bool) (one : NumberedWait → Bool) (ws : List NumberedWait)
    → ((w : NumberedWait) → IsKnown rs w → (test (wait_of rs w) && kind (wait_of rs w)) ≡ one w) → All (IsKnown rs) ws
    → list_any test (filter kind (waits_of rs ws)) ≡ list_any one ws
any-seen rs kind test one [] same all = refl
any-seen rs kind test one (w ∷ ws) same all =
    at (kind (wait_of rs w)) refl (same w (All-head (IsKnown rs) w ws all)) (any-seen rs kind test one ws same (All-tail (IsKnown rs) w ws all))
  where
    rest : List Wait
    rest = filter kind (waits_of rs ws)

    at : (b : Bool) → kind (wait_of rs w) ≡ b → (test (wait_of rs w) && kind (wait_of rs w)) ≡ one w → list_any test rest ≡ list_any one ws
        → list_any test (cond b (wait_of rs w ∷ rest) rest) ≡ (one w || list_any one ws)
    at true is here more =
        let first : test (wait_of rs w) ≡ one w = sym (ap (λ b. test (wait_of rs w) && b) is ∙ and-one (test (wait_of rs w))) ∙ here in
        λ i. first i || more i
    at false is here more =
        let first : one w ≡ false = sym here ∙ ap (λ b. test (wait_of rs w) && b) is ∙ and-false (test (wait_of rs w)) in
        more ∙ ap (λ b. b || list_any one ws) (sym first)

-- each wait is known
pub known-at : (rs : List Resource) (ws : List NumberedWait) (k : ℕ) → AreKnown rs ws → k < length ws → IsKnown rs (get_or ws k no_wait)
known-at rs ws k known lt = All-get_or (IsKnown rs) ws k no_wait lt known.each

-- ---- who is ahead

-- of the waits before and after, whether one of a session that is looked for stands there
abbrev pub ahead-of : Look → List Resource → List NumberedWait → ℕ → Option ℕ → Bool → Bool
ahead-of look rs ws k whose converting =
    let number = (get_or ws k no_wait).resource in
    cond converting (list_any (stands look rs number true whose) (take k ws))
    (list_any (stands look rs number false whose) (take k ws) || list_any (stands look rs number true whose) (drop (k + 1) ws))

module _ (look : Look) (rs : List Resource) (ws : List NumberedWait) (k : ℕ) (whose : Option ℕ) (known : AreKnown rs ws)
    (has : HasNumber rs (get_or ws k no_wait).resource) where
  abbrev number : ResourceNumber
  number = (get_or ws k no_wait).resource

  abbrev there : Wait → Bool
  there v = same_resource v.resource (resource_of rs number)

  abbrev looked : Wait → Bool
  looked v = is_of whose v.session

  conversions : (us : List NumberedWait) → All (IsKnown rs) us
      → list_any looked (filter (λ v. there v && converts look v) (waits_of rs us)) ≡ list_any (stands look rs number true whose) us
  conversions us all = any-seen rs (λ v. there v && converts look v) looked (stands look rs number true whose) us
      (λ w is. ap (λ b. is_of whose w.session && (b && converts look (wait_of rs w))) (same-number rs w.resource number known.rise is.number has)) all

  any-there : (us : List NumberedWait) → All (IsKnown rs) us
      → list_any looked (filter there (waits_of rs us)) ≡ list_any (stands look rs number false whose) us
  any-there us all = any-seen rs there looked (stands look rs number false whose) us
      (λ w is. ap (λ b. is_of whose w.session && b)
      (same-number rs w.resource number known.rise is.number has ∙ sym (and-one (place_of w.resource == place_of number)))) all

  -- what stands ahead is found among the waits by number
  pub ahead-any : list_any looked (ahead look (spot_at rs ws k)) ≡ ahead-of look rs ws k whose (converts look (wait_of rs (get_or ws k no_wait)))
  ahead-any = at (converts look (wait_of rs (get_or ws k no_wait)))
    where
      before : All (IsKnown rs) (take k ws)
      before = All-take (IsKnown rs) k ws known.each

      after : All (IsKnown rs) (drop (k + 1) ws)
      after = All-drop (IsKnown rs) (k + 1) ws known.each

      at : (c : Bool)
          → list_any looked (cond c (filter (λ v. there v && converts look v) (waits_of rs (take k ws)))
          (filter there (waits_of rs (take k ws)) ++ filter (λ v. there v && converts look v) (waits_of rs (drop (k + 1) ws))))
          ≡ ahead-of look rs ws k whose c
      at true = conversions (take k ws) before
      at false =
          list_any-append looked (filter there (waits_of rs (take k ws))) (filter (λ v. there v && converts look v) (waits_of rs (drop (k + 1) ws)))
          ∙ (λ i. any-there (take k ws) before i || conversions (drop (k + 1) ws) after i)

-- ---- places

-- the wait at a place stands there
pub at-spot : (rs : List Resource) (ws : List NumberedWait) (k : ℕ) → k < length ws → IsSpot (waits_of rs ws) (spot_at rs ws k)
at-spot rs ws k lt =
    sym (map-append (wait_of rs) (take k ws) (get_or ws k no_wait ∷ drop (k + 1) ws))
    ∙ ap (waits_of rs) (ap (λ us. take k ws ++ us) (sym (drop_more ws k no_wait lt)) ∙ take-append-drop k ws)

pub before-spot : (rs : List Resource) (ws : List NumberedWait) (k : ℕ) → k < length ws → length (spot_at rs ws k).before ≡ k
before-spot rs ws k lt = length-map (take k ws) (wait_of rs) ∙ length-take-le k ws (omega (arith, lt))

same-parts : (b c : List Wait) (v w : Wait) (x y : List Wait) → length b ≡ length c → b ++ v ∷ x ≡ c ++ w ∷ y → (b ≡ c) × (v ≡ w) × (x ≡ y)
same-parts [] [] v w x y n e = (refl, cc, cc)
same-parts [] (k ∷ c) v w x y n e = absurd (omega arith)
same-parts (h ∷ b) [] v w x y n e = absurd (omega arith)
same-parts (h ∷ b) (k ∷ c) v w x y n e =
    let heads : h ≡ k = cc in
    let tails : b ++ v ∷ x ≡ c ++ w ∷ y = cc in
    let r = same-parts b c v w x y (omega arith) tails in
    ((λ i. heads i ∷ r.0 i), r.1, r.2)

-- one wait stands at each place
pub same-spot : (waits : List Wait) (s t : Spot) → IsSpot waits s → IsSpot waits t → length s.before ≡ length t.before → s ≡ t
same-spot waits s t p q n =
    let r = same-parts s.before t.before s.wait t.wait s.after t.after n (p ∙ sym q) in
    λ i. record { before = r.0 i; wait = r.1 i; after = r.2 i }
