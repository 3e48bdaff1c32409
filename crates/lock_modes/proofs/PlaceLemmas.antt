-- When two rows are one.
use Rattle.std.specs.Prelude.{◌≡◌, ◌↔◌, ℕ, IsTrue}
use Rattle.std.proofs.Common.{subst}
use Rattle.std.specs.Ordering.{eq_by_cmp}
use Rattle.finite_maps.specs.Map.{same_key-true, same_key-refl}
use Rattle.lock_modes.specs.Value.{value_cmp, value_order}
use Rattle.lock_modes.specs.declared.value.Value.{Value}
use Rattle.lock_modes.specs.declared.resource.Resource.TheVariants.{Row}

-- rows of one table are one where their keys are told to be
pub same_rows : (t u : ℕ) (v w : Value) → t ≡ u → IsTrue (eq_by_cmp value_cmp v w) ↔ (Row t v ≡ Row u w)
same_rows t u v w e = (
  λ h. let keys : v ≡ w = same_key-true value_order v w h in cc,
  λ h. let keys : v ≡ w = cc in subst (λ x. IsTrue (eq_by_cmp value_cmp v x)) keys (same_key-refl value_order v),
)
