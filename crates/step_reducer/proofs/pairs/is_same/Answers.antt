use Rattle.std.proofs.Common.{◌≡◌, subst, true}
use Rattle.std.specs.Cmp.{both_ways}
use Rattle.finite_maps.specs.Map.{same_key, same_key-true, same_key-refl}
use Rattle.lock_modes.specs.Resource.{resource_at, resource_order, same_resource}
use Rattle.step_reducer.proofs.pairs.is_same.Goals as goal

pub returns : goal.returns
returns c =
    let a = resource_at c.args.place in
    let b = resource_at c.args.there in
    both_ways c.is_same.result (same_resource a b)
    (λ e. subst (λ r. same_key resource_order a r ≡ true) (c.is_same.ensures.0 e) (same_key-refl resource_order a))
    (λ e. c.is_same.ensures.1 (same_key-true resource_order a b e))
