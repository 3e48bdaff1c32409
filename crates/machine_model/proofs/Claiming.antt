-- What a session claims.
use Rattle.std.proofs.Common.{◌≡◌, ap, ◌∙◌, Bool, true, false, ◌&&◌, ◌||◌, List, [], ◌∷◌, Option, Some, None, ◌⊎◌, inl, inr, ⊎_elim}
use Rattle.std.specs.List.{list_any}
use Rattle.finite_maps.specs.Map.{same_key-true, same_key-refl, get}
use Rattle.lock_modes.specs.RowPlace.{RowPlace}
use Rattle.lock_modes.specs.Resource.{resource_order, same_resource}
use Rattle.lock_modes.specs.Mode.{same_mode}
use Rattle.bound_statements.specs.Plan.{Request}
use Rattle.machine_model.specs.Session.{Held}
use Rattle.machine_model.specs.Claims.{Claims, may_write, claims_of, is_mode}
use Rattle.lock_modes.specs.declared.mode.Mode.{Mode}
use Rattle.lock_modes.specs.declared.resource.Resource.{Resource}
use Rattle.machine_model.proofs.Basics.{both_true, and_true, or_true_left, or_true_right, some_passes, either_true}
use Rattle.statement_evaluation.proofs.ListLemmas.{Each, Each-map}
use Rattle.machine_model.proofs.Effects.{Claimed}
use Rattle.lock_modes.specs.declared.mode.Mode.TheVariants.{IntentExclusive, ShareIntent, Exclusive}
use Rattle.lock_modes.specs.declared.resource.Resource.TheVariants.{Table, Row as RowOf}
use Rattle.lock_modes.proofs.ModeLaws.{same_mode-true, same_mode-refl}

is_mode-Some : (o : Option Mode) (m : Mode) → o ≡ Some m → is_mode o m ≡ true
is_mode-Some o m e = ap (λ x. is_mode x m) e ∙ same_mode-refl m

-- what is held and what is asked is claimed
pub claims-held : (h : Held) (qs : List Request) (r : Resource) (m : Mode) → get h r ≡ Some m → claims_of h qs r m ≡ true
claims-held h qs r m e = or_true_left _ _ (is_mode-Some (get h r) m e)

asked-any : (qs : List Request) → Each (λ q. list_any (λ p. same_resource p.resource q.resource && same_mode p.mode q.mode) qs ≡ true) qs
asked-any [] = tt
asked-any (q ∷ qs) = (
  or_true_left _ _ (and_true _ _ (same_key-refl resource_order q.resource) (same_mode-refl q.mode)),
  Each-map (λ x. list_any (λ p. same_resource p.resource x.resource && same_mode p.mode x.mode) qs
      ≡ true) (λ x. list_any (λ p. same_resource p.resource x.resource && same_mode p.mode x.mode) (q ∷ qs)
      ≡ true) (λ x e. or_true_right (same_resource q.resource x.resource && same_mode q.mode x.mode) _ e) qs (asked-any qs),
)

pub claims-asked : (h : Held) (qs : List Request) → Claimed (claims_of h qs) qs
claims-asked h qs = Each-map (λ q. list_any (λ p. same_resource p.resource q.resource && same_mode p.mode q.mode) qs
    ≡ true) (λ q. claims_of h qs q.resource q.mode ≡ true) (λ q e. or_true_right (is_mode (get h q.resource) q.mode) _ e) qs (asked-any qs)

is_mode-true : (o : Option Mode) (m : Mode) → is_mode o m ≡ true → o ≡ Some m
is_mode-true None m e = cc
is_mode-true (Some n) m e = ap Some (same_mode-true n m e)

-- what is claimed is held, or is asked
pub claims-cases : (P : Request → Type 0) (h : Held) (qs : List Request) (r : Resource) (m : Mode) → Each P qs → claims_of h qs r m ≡ true → (get h r ≡ Some m)
    ⊎ ((q : Request) × P q × (q.resource ≡ r) × (q.mode ≡ m))
claims-cases P h qs r m each e =
    ⊎_elim (λ x. inl (is_mode-true (get h r) m x))
    (λ x.
    let y = some_passes P (λ q. same_resource q.resource r && same_mode q.mode m) qs each x in
    let b = both_true (same_resource y.0.resource r) _ y.2 in
    inr (y.0, y.1, same_key-true resource_order y.0.resource r b.0, same_mode-true y.0.mode m b.1))
    (either_true (is_mode (get h r) m) _ e)

or_implies : (a b x y : Bool) → (a ≡ true → x ≡ true) → (b ≡ true → y ≡ true) → (a || b) ≡ true → (x || y) ≡ true
or_implies a b x y f g e = ⊎_elim (λ h. or_true_left x y (f h)) (λ h. or_true_right x y (g h)) (either_true a b e)

-- more claims let more be written
pub may_write-more : (a b : Claims) → ((r : Resource) (m : Mode) → a r m ≡ true → b r m ≡ true) → (p : RowPlace) → may_write a p ≡ true → may_write b p ≡ true
may_write-more a b h p e =
    or_implies (a (Table p.0) Exclusive) _ (b (Table p.0) Exclusive) _ (h (Table p.0) Exclusive)
    (λ x.
    let c = both_true (a (RowOf p.0 p.1) Exclusive) _ x in
    and_true _ _ (h (RowOf p.0 p.1) Exclusive c.0) (or_implies (a (Table p.0) IntentExclusive) _ (b (Table p.0) IntentExclusive) _
    (h (Table p.0) IntentExclusive) (h (Table p.0) ShareIntent) c.1))
    e

pub held-more : (h : Held) (qs : List Request) (r : Resource) (m : Mode) → claims_of h [] r m ≡ true → claims_of h qs r m ≡ true
held-more h qs r m e = or_implies (is_mode (get h r) m) false (is_mode (get h r) m) _ (λ x. x) (λ x. cc) e
