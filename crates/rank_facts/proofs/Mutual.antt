-- Which of two quiet steps is called the first makes no difference.
use Rattle.std.proofs.Common.{◌≡◌, refl, sym, ap, ◌∙◌, ℕ, Bool, true, false, not, ◌||◌, ◌==◌, List, eq-eqb, eqb-true, subst}
use Rattle.std.specs.List.{list_all}
use Rattle.finite_maps.specs.Map.{same_key-true, same_key-refl}
use Rattle.lock_modes.specs.Resource.{resource_order, same_resource}
use Rattle.lock_modes.specs.declared.resource.Resource.{Resource}
use Rattle.lock_queues.specs.Locks.{waits_now}
use Rattle.bound_statements.specs.Plan.{Request}
use Rattle.bound_specs.specs.Spec.{Step}
use Rattle.machine_model.specs.World.{World}
use Rattle.machine_model.specs.Claims.{plans}
use Rattle.machine_model.proofs.Basics.{Each-swap, Each-list_all, list_all-Each, both_true, and_true}
use Rattle.statement_evaluation.proofs.ListLemmas.{Each, Each-map}
use Rattle.rank_facts.specs.Quiet.{is_quiet, all_fit, all_fit_together, fit_together, undisturbed}
use Rattle.lock_modes.proofs.ModeLaws.{compatible-comm}

-- two tests that imply each other are one
both-ways : (a b : Bool) → (a ≡ true → b ≡ true) → (b ≡ true → a ≡ true) → a ≡ b
both-ways true true f g = refl
both-ways true false f g = sym (f refl)
both-ways false true f g = g refl
both-ways false false f g = refl

same-turned : (a b : ℕ) → (a == b) ≡ true → (b == a) ≡ true
same-turned a b e = eq-eqb b a (sym (eqb-true a b e))

same_resource-turned : (a b : Resource) → same_resource a b ≡ true → same_resource b a ≡ true
same_resource-turned a b e = subst (λ r. same_resource b r ≡ true) (sym (same_key-true resource_order a b e)) (same_key-refl resource_order b)

fit-turned : (q p : Request) → fit_together q p ≡ fit_together p q
fit-turned q p =
    λ i. not (both-ways (same_resource q.resource p.resource) (same_resource p.resource q.resource) (same_resource-turned q.resource p.resource)
    (same_resource-turned p.resource q.resource) i)
    || compatible-comm q.mode p.mode i

together-turned : (qs ps : List Request) → all_fit_together qs ps ≡ true → all_fit_together ps qs ≡ true
together-turned qs ps e =
    let each : Each (λ q. Each (λ p. fit_together q p ≡ true) ps) qs =
    Each-map (λ q. list_all (fit_together q) ps ≡ true) (λ q. Each (λ p. fit_together q p ≡ true) ps) (λ q h. Each-list_all (fit_together q) ps h) qs
    (Each-list_all (λ q. list_all (fit_together q) ps) qs e) in
    let turned : Each (λ p. Each (λ q. fit_together q p ≡ true) qs) ps = Each-swap (λ q p. fit_together q p ≡ true) qs ps each in
    list_all-Each (λ p. list_all (fit_together p) qs) ps
    (Each-map (λ p. Each (λ q. fit_together q p ≡ true) qs) (λ p. list_all (fit_together p) qs ≡ true)
    (λ p h. list_all-Each (fit_together p) qs (Each-map (λ q. fit_together q p ≡ true) (λ q. fit_together p q ≡ true) (λ q k. sym (fit-turned q p)
    ∙ k) qs h)) ps turned)

quiet-turned : (w : World) (s t : Step) → is_quiet w s t ≡ true → is_quiet w t s ≡ true
quiet-turned w s t quiet =
    let i = s.session in
    let j = t.session in
    let qs = plans s.statements in
    let ps = plans t.statements in
    let a = both_true (not (i == j)) _ quiet in
    let b = both_true (not (waits_now w.waits i)) _ a.1 in
    let c = both_true (not (waits_now w.waits j)) _ b.1 in
    let d = both_true (all_fit w i qs) _ c.1 in
    let e = both_true (all_fit w j ps) _ d.1 in
    let f = both_true (all_fit_together qs ps) _ e.1 in
    let g = both_true (undisturbed w i qs) _ f.1 in
    let apart : not (j == i) ≡ true = ap not (both-ways (j == i) (i == j) (same-turned j i) (same-turned i j)) ∙ a.0 in
    and_true (not (j == i)) _ apart
    (and_true (not (waits_now w.waits j)) _ c.0
    (and_true (not (waits_now w.waits i)) _ b.0
    (and_true (all_fit w j ps) _ e.0
    (and_true (all_fit w i qs) _ d.0
    (and_true (all_fit_together ps qs) _ (together-turned qs ps f.0) (and_true (undisturbed w j ps) _ g.1 g.0))))))

pub quiet-mutual : (w : World) (s t : Step) → is_quiet w s t ≡ is_quiet w t s
quiet-mutual w s t = both-ways (is_quiet w s t) (is_quiet w t s) (quiet-turned w s t) (quiet-turned w t s)
