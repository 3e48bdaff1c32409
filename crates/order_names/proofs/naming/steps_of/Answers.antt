use Rattle.std.proofs.Common.{◌≡◌, ◌+◌, ◌<◌, ◌∙◌, sym, ap, subst, ℕ, List, [], ◌∷◌, ◌++◌, length, map, take, get_or, Bor, arith}
use Rattle.std.proofs.lemmas.List.{get_or-map, length-map, take_more}
use Rattle.std.specs.List.{AllZip}
use Rattle.order_names.specs.Orders.{IsStepNamed}
use Rattle.order_names.proofs.Names.{front-known, unknown-told, zip-push}
use Rattle.order_names.proofs.naming.steps_of.Goals as goal

-- no step has the name here
pub returns-in_default-clause-refused : goal.returns-in_default-clause-refused
returns-in_default-clause-refused c =
    let names = map (λ (p : Bor (List ℕ)). p.now) c.args.names.now in
    let place = c.loop-place.place in
    let count = length-map c.args.names.now (λ (p : Bor (List ℕ)). p.now) in
    let lt : place < length names = omega (arith, count, c.loop-place-test.true) in
    let at : get_or names place [] ≡ (get_or c.args.names.now place _).now =
    get_or-map (λ (p : Bor (List ℕ)). p.now) c.args.names.now place _ _ c.loop-place-test.true in
    let none : (k : ℕ) → IsStepNamed c.args.spec.now (get_or names place []) k → ⊥ =
    λ k h. c.in_default.ensures k (subst (λ n. IsStepNamed c.args.spec.now n k) at h) in (
      (lt, front-known c.args.spec.now names place c.loop-place.steps.items (omega (arith, lt)) c.loop-place.invariant, none),
      λ ne. unknown-told c.args.spec.now names place lt none,
    )

-- one step more
pub loop-place-preserved : goal.loop-place-preserved
loop-place-preserved c =
    let names = map (λ (p : Bor (List ℕ)). p.now) c.args.names.now in
    let place = c.loop-place.place in
    let count = length-map c.args.names.now (λ (p : Bor (List ℕ)). p.now) in
    let lt : place < length names = omega (arith, count, c.loop-place-test.true) in
    let at : get_or names place [] ≡ (get_or c.args.names.now place _).now =
    get_or-map (λ (p : Bor (List ℕ)). p.now) c.args.names.now place _ _ c.loop-place-test.true in
    let named : IsStepNamed c.args.spec.now (get_or names place []) c.in-Some.step = subst (λ n. IsStepNamed c.args.spec.now n c.in-Some.step) (sym at)
    c.in-Some.ensures in
    subst (AllZip (IsStepNamed c.args.spec.now) (take (place + 1) names)) (sym c.in-Ok.ensures.items)
    (subst (λ front. AllZip (IsStepNamed c.args.spec.now) front (c.loop-place.steps.items ++ c.in-Some.step ∷ [])) (sym (take_more names place [] lt))
    (zip-push c.args.spec.now (take place names) c.loop-place.steps.items (get_or names place []) c.in-Some.step c.loop-place.invariant named))
