-- Who waits for others than before is told of, and nobody else.
use Rattle.std.proofs.Common.{◌≡◌, ◌≢◌, refl, sym, ap, ◌∙◌, subst, ℕ, zero, suc, ◌<◌, Bool, true, false, cond, ◌&&◌, ◌==◌, List, [], ◌∷◌, ◌++◌, length}
use Rattle.std.proofs.Common.{◌⊎◌, inl, inr, ⊎_elim, ◌↔◌, arith, eqb-true, eq-eqb}
use Rattle.std.proofs.lemmas.Bool.{and_from, and_parts, both_ways}
use Rattle.lock_modes.proofs.ModeLaws.{same_mode-true, same_mode-refl}
use Rattle.bound_specs.specs.Spec.{Step}
use Rattle.machine_model.specs.World.{World}
use Rattle.machine_model.proofs.Basics.{known}
use Rattle.lock_queues.specs.declared.reason.Reason.{Reason}
use Rattle.lock_queues.specs.declared.reason.Reason.TheVariants.{Holds, Ahead}
use Rattle.lock_queues.specs.declared.reason.Edge.{Edge}
use Rattle.lock_queues.specs.Reasons.{same_reason, same_edges, Among}
use Rattle.line_moments.specs.declared.moment.Still.{Still}
use Rattle.line_moments.specs.Moments.{Going, edges_in, changed_edges, still_below, behind, session_by, moment_of}
use Rattle.lock_queues.proofs.Edges.{among-left, among-right, among-parts}

-- ---- the test of edges

reason-same : (a b : Reason) → same_reason a b ≡ true → a ≡ b
reason-same (Holds m) (Holds n) e = ap Holds (same_mode-true m n e)
reason-same (Holds m) (Ahead n) e = absurd (let x : false ≡ true = e in cc)
reason-same (Ahead m) (Holds n) e = absurd (let x : false ≡ true = e in cc)
reason-same (Ahead m) (Ahead n) e = ap Ahead (same_mode-true m n e)

reason-refl : (a : Reason) → same_reason a a ≡ true
reason-refl (Holds m) = same_mode-refl m
reason-refl (Ahead m) = same_mode-refl m

edges-same : (es fs : List Edge) → same_edges es fs ≡ true → es ≡ fs
edges-same [] [] h = refl
edges-same [] (f ∷ fs) h = absurd (let x : false ≡ true = h in cc)
edges-same (e ∷ es) [] h = absurd (let x : false ≡ true = h in cc)
edges-same (e ∷ es) (f ∷ fs) h =
    let p = and_parts ((e.session == f.session) && same_reason e.reason f.reason) _ h in
    let q = and_parts (e.session == f.session) _ p.0 in
    let s = eqb-true e.session f.session q.0 in
    let r = reason-same e.reason f.reason q.1 in
    let t = edges-same es fs p.1 in
    λ k. record { session = s k; reason = r k } ∷ t k

edges-refl : (es : List Edge) → same_edges es es ≡ true
edges-refl [] = refl
edges-refl (e ∷ es) = and_from _ _ (and_from _ _ (eq-eqb e.session e.session refl) (reason-refl e.reason)) (edges-refl es)

-- ---- one session

abbrev its : ℕ → List Edge → Still
its c es = record { session = c; edges = es }

abbrev IsNew : ℕ → List Edge → List Edge → Still → Type 0
IsNew c old new x = (x.session ≡ c) × (x.edges ≡ new) × (x.edges ≢ []) × (old ≢ x.edges)

one-new : (c : ℕ) (old new : List Edge) (x : Still) → Among x (changed_edges c old new) → IsNew c old new x
one-new c old [] x m = absurd m
one-new c old (e ∷ es) x m = at (same_edges old (e ∷ es)) refl m
  where
    here : same_edges old (e ∷ es) ≡ false → x ≡ record { session = c; edges = e ∷ es } → IsNew c old (e ∷ es) x
    here is k =
        subst (IsNew c old (e ∷ es)) (sym k) (
          refl,
          refl,
          (λ h. let y : e ∷ es ≡ [] = h in cc),
          (λ h. both_ways (same_edges old (e ∷ es)) is (subst (λ z. same_edges old z ≡ true) h (edges-refl old))),
        )

    at : (b : Bool) → same_edges old (e ∷ es) ≡ b → Among x (cond b [] (record { session = c; edges = e ∷ es } ∷ [])) → IsNew c old (e ∷ es) x
    at true is k = absurd k
    at false is (inl k) = here is k
    at false is (inr k) = absurd k

new-one : (c : ℕ) (old new : List Edge) → new ≢ [] → old ≢ new → Among (its c new) (changed_edges c old new)
new-one c old [] some other = absurd (some refl)
new-one c old (e ∷ es) some other =
    subst (λ b. Among (its c (e ∷ es)) (cond b [] (record { session = c; edges = e ∷ es } ∷ [])))
    (sym (⊎_elim (λ h. absurd (other (edges-same old (e ∷ es) h))) (λ h. h) (known (same_edges old (e ∷ es))))) (inl refl)

-- ---- all sessions

still-new : (n i : ℕ) (w v : World) (x : Still) → Among x (still_below n i w v)
    → (x.session < n) × (x.session ≢ i) × (x.edges ≡ edges_in v x.session) × (x.edges ≢ []) × (edges_in w x.session ≢ x.edges)
still-new zero i w v x m = absurd m
still-new (suc n) i w v x m =
    ⊎_elim
    (λ h. let r = still-new n i w v x h in (let lt : x.session < n = r.0 in omega (arith, lt), r.1, r.2, r.3, r.4))
    (λ h. at (n == i) refl h)
    (among-parts x (still_below n i w v) (cond (n == i) [] (changed_edges n (edges_in w n) (edges_in v n))) m)
  where
    made : n ≢ i → IsNew n (edges_in w n) (edges_in v n) x
        → (x.session < suc n) × (x.session ≢ i) × (x.edges ≡ edges_in v x.session) × (x.edges ≢ []) × (edges_in w x.session ≢ x.edges)
    made ne y = (
      (let e : x.session ≡ n = y.0 in omega (arith, e)),
      (λ k. ne (sym y.0 ∙ k)),
      y.1 ∙ ap (edges_in v) (sym y.0),
      y.2,
      (λ k. y.3 (ap (edges_in w) (sym y.0) ∙ k)),
    )

    at : (b : Bool) → (n == i) ≡ b → Among x (cond b [] (changed_edges n (edges_in w n) (edges_in v n)))
        → (x.session < suc n) × (x.session ≢ i) × (x.edges ≡ edges_in v x.session) × (x.edges ≢ []) × (edges_in w x.session ≢ x.edges)
    at true is k = absurd k
    at false is k =
        made (λ e. both_ways (n == i) is (eq-eqb n i e)) (one-new n (edges_in w n) (edges_in v n) x k)

new-still : (n i c : ℕ) (w v : World) → c < n → c ≢ i → edges_in v c ≢ [] → edges_in w c ≢ edges_in v c
    → Among (its c (edges_in v c)) (still_below n i w v)
new-still zero i c w v lt ne some other = absurd (omega (arith, lt))
new-still (suc n) i c w v lt ne some other = at (grind (arith, lt)) (λ l. new-still n i c w v l ne some other)
  where
    off : (c ≡ n) → (n == i) ≡ false
    off k = ⊎_elim (λ h. absurd (ne (k ∙ eqb-true n i h))) (λ h. h) (known (n == i))

    at : (c ≡ n) ⊎ (c < n) → (c < n → Among (its c (edges_in v c)) (still_below n i w v))
        → Among (its c (edges_in v c)) (still_below n i w v ++ cond (n == i) [] (changed_edges n (edges_in w n) (edges_in v n)))
    at (inl k) rec =
        among-right (its c (edges_in v c)) (still_below n i w v) (cond (n == i) [] (changed_edges n (edges_in w n) (edges_in v n)))
        (subst (λ b. Among (its c (edges_in v c)) (cond b [] (changed_edges n (edges_in w n) (edges_in v n)))) (sym (off k))
        (subst (λ d. Among (its c (edges_in v c)) (changed_edges d (edges_in w d) (edges_in v d))) k (new-one c (edges_in w c) (edges_in v c) some other)))
    at (inr l) rec = among-left (its c (edges_in v c)) (still_below n i w v) _ (rec l)

pub still-exact : (steps : List Step) (g : Going) (c : ℕ) (es : List Edge)
    → Among {A = Still} (record { session = c; edges = es }) (moment_of steps g).still
    ↔ ((c < length (behind steps g).sessions) × (c ≢ session_by steps g.cause) × (es ≡ edges_in (behind steps g) c) × (es ≢ []) × (edges_in g.world c ≢ es))
still-exact steps g c es = (
  (λ m. still-new (length (behind steps g).sessions) (session_by steps g.cause) g.world (behind steps g) (its c es) m),
  (λ x.
      subst (λ fs. Among (its c fs) (still_below (length (behind steps g).sessions) (session_by steps g.cause) g.world (behind steps g))) (sym x.2)
      (new-still (length (behind steps g).sessions) (session_by steps g.cause) c g.world (behind steps g) x.0 x.1
      (subst (λ fs. fs ≢ []) x.2 x.3) (subst (λ fs. edges_in g.world c ≢ fs) x.2 x.4))),
)
