-- Modes that stand for others, and what they let a session write.
use Rattle.std.proofs.Common.{◌≡◌, refl, sym, ap, ◌∙◌, subst, Bool, true, false, cond, ◌&&◌, ◌||◌, List, [], ◌∷◌, Option, Some, None, ◌⊎◌, inl, inr, ⊎_elim}
use Rattle.finite_maps.specs.Map.{same_key, same_key-true, same_key-refl, get, insert, get-insert}
use Rattle.lock_modes.specs.RowPlace.{RowPlace}
use Rattle.lock_modes.specs.Resource.{resource_order, same_resource}
use Rattle.lock_modes.specs.Mode.{cover, AtLeast}
use Rattle.lock_queues.specs.Locks.{wanted}
use Rattle.bound_statements.specs.Plan.{Request, asks_on, writes_in, is_exclusive}
use Rattle.machine_model.specs.Session.{Held}
use Rattle.row_tables.specs.Overlay.{Overlay}
use Rattle.machine_model.specs.Claims.{may_write, claims_of}
use Rattle.machine_model.specs.Sound.{Covers, HoldsAll, IsIn, here, there, AllIn, UnderLocks}
use Rattle.lock_modes.specs.declared.mode.Mode.{Mode}
use Rattle.lock_modes.specs.declared.mode.Mode.TheVariants.{IntentShare, IntentExclusive, Share, ShareIntent, Exclusive}
use Rattle.lock_modes.specs.declared.resource.Resource.{Resource}
use Rattle.lock_modes.specs.declared.resource.Resource.TheVariants.{Table, Row as RowOf}
use Rattle.machine_model.proofs.Looks.{writable}
use Rattle.machine_model.proofs.Basics.{both_true, and_true, either_true, or_true_left, or_true_right}
use Rattle.machine_model.proofs.Effects.{exclusive-is}
use Rattle.machine_model.proofs.Claiming.{claims-held, claims-cases}
use Rattle.lock_modes.proofs.ModeLaws.{cover-right, cover-more, at-least-refl, at-least-trans}
use Rattle.bound_statements.proofs.PlanModes.{exclusive-up, writes-up}

-- ---- what a session may write by what it holds

pub record HasMode (h : Held) (r : Resource) (test : Mode → Bool) : Type 0 where
  pub mode : Mode
  pub is : get h r ≡ Some mode
  pub passes : test mode ≡ true

abbrev pub CanWrite : Held → RowPlace → Type 0
CanWrite h p = HasMode h (Table p.0) is_exclusive ⊎ (HasMode h (RowOf p.0 p.1) is_exclusive × HasMode h (Table p.0) writes_in)

pub held-claim : (h : Held) (r : Resource) (m : Mode) → claims_of h [] r m ≡ true → get h r ≡ Some m
held-claim h r m e = ⊎_elim (λ x. x) (λ x. absurd x.1) (claims-cases (λ q. ⊥) h [] r m tt e)

has-claim : (h : Held) (r : Resource) (m : Mode) (test : Mode → Bool) → test m ≡ true → claims_of h [] r m ≡ true → HasMode h r test
has-claim h r m test t e = record { mode = m; is = held-claim h r m e; passes = t }

pub may-can : (h : Held) (p : RowPlace) → may_write (claims_of h []) p ≡ true → CanWrite h p
may-can h p e =
    ⊎_elim (λ x. inl (has-claim h (Table p.0) Exclusive is_exclusive refl x))
    (λ x.
    let b = both_true (claims_of h [] (RowOf p.0 p.1) Exclusive) _ x in
    inr (
      has-claim h (RowOf p.0 p.1) Exclusive is_exclusive refl b.0,
      ⊎_elim (λ y. has-claim h (Table p.0) IntentExclusive writes_in refl y) (λ y. has-claim h (Table p.0) ShareIntent writes_in refl y)
          (either_true (claims_of h [] (Table p.0) IntentExclusive) _ b.1),
    ))
    (either_true (claims_of h [] (Table p.0) Exclusive) _ e)

exclusive-claim : (h : Held) (r : Resource) → HasMode h r is_exclusive → claims_of h [] r Exclusive ≡ true
exclusive-claim h r x = claims-held h [] r Exclusive (x.is ∙ ap Some (exclusive-is x.mode x.passes))

intent-cases : (h : Held) (r : Resource) (m : Mode) → get h r ≡ Some m → writes_in m ≡ true → (claims_of h [] r Exclusive ≡ true)
    ⊎ ((claims_of h [] r IntentExclusive || claims_of h [] r ShareIntent) ≡ true)
intent-cases h r IntentShare is e = cc
intent-cases h r IntentExclusive is e = inr (or_true_left _ _ (claims-held h [] r IntentExclusive is))
intent-cases h r Share is e = cc
intent-cases h r ShareIntent is e = inr (or_true_right (claims_of h [] r IntentExclusive) _ (claims-held h [] r ShareIntent is))
intent-cases h r Exclusive is e = inl (claims-held h [] r Exclusive is)

pub can-may : (h : Held) (p : RowPlace) → CanWrite h p → may_write (claims_of h []) p ≡ true
can-may h p (inl x) = or_true_left _ _ (exclusive-claim h (Table p.0) x)
can-may h p (inr x) =
    ⊎_elim (λ y. or_true_left _ _ y) (λ y. or_true_right (claims_of h [] (Table p.0) Exclusive) _ (and_true _ _ (exclusive-claim h (RowOf p.0 p.1) x.0) y))
    (intent-cases h (Table p.0) x.1.mode x.1.is x.1.passes)

-- ---- holding more

-- each mode that is held is held, or a stronger one
pub record Stronger (h k : Held) : Type 0 where
  pub each : (r : Resource) (n : Mode) → get h r ≡ Some n → Covers (get k r) n

covers-wanted : (o : Option Mode) (n m : Mode) → o ≡ Some n → Covers (Some (wanted o m)) n
covers-wanted None n m e = cc
covers-wanted (Some x) n m e = (cover x m, refl, cover-more x n m (subst (λ y. AtLeast x y) (let z : x ≡ n = cc in z) (at-least-refl x)))

pub stronger-taking : (h : Held) (r : Resource) (m : Mode) → Stronger h (insert h r (wanted (get h r) m))
stronger-taking h r m = record { each = λ q n e. subst (λ o. Covers o n) (sym (get-insert h r _ q)) (at q n e (same_key resource_order q r) refl) }
  where
    at : (q : Resource) (n : Mode) → get h q ≡ Some n → (b : Bool) → same_key resource_order q r ≡ b
        → Covers (cond (same_key resource_order q r) (Some (wanted (get h r) m)) (get h q)) n
    at q n e true same =
        let k : q ≡ r = same_key-true resource_order q r same in
        subst (λ b. Covers (cond b (Some (wanted (get h r) m)) (get h q)) n) (sym same) (covers-wanted (get h r) n m (sym (ap (get h) k) ∙ e))
    at q n e false same = subst (λ b. Covers (cond b (Some (wanted (get h r) m)) (get h q)) n) (sym same) (n, e, at-least-refl n)

pub has-stronger : (h k : Held) → Stronger h k → (r : Resource) (test : Mode → Bool) → ((n m : Mode) → AtLeast n m → test m ≡ true → test n ≡ true)
    → HasMode h r test → HasMode k r test
has-stronger h k s r test up x = let c = s.each r x.mode x.is in record { mode = c.0; is = c.1; passes = up c.0 x.mode c.2 x.passes }

pub can-stronger : (h k : Held) → Stronger h k → (p : RowPlace) → CanWrite h p → CanWrite k p
can-stronger h k s p (inl x) = inl (has-stronger h k s (Table p.0) is_exclusive exclusive-up x)
can-stronger h k s p (inr x) = inr (has-stronger h k s (RowOf p.0 p.1) is_exclusive exclusive-up x.0, has-stronger h k s (Table p.0) writes_in writes-up x.1)

pub under-stronger : (o : Overlay) (h k : Held) → Stronger h k → UnderLocks o h → UnderLocks o k
under-stronger o h k s under p x e = can-may k p (can-stronger h k s p (may-can h p (under p x e)))

covers-stronger : (h k : Held) → Stronger h k → (r : Resource) (m : Mode) → Covers (get h r) m → Covers (get k r) m
covers-stronger h k s r m x = let c = s.each r x.0 x.1 in (c.0, c.1, at-least-trans c.0 x.0 m c.2 x.2)

pub holds-stronger : (h k : Held) → Stronger h k → (qs : List Request) → HoldsAll h qs → HoldsAll k qs
holds-stronger h k s [] x = tt
holds-stronger h k s (q ∷ qs) x = (covers-stronger h k s q.resource q.mode x.0, holds-stronger h k s qs x.1)

-- the request that is had now is held
covers-new : (o : Option Mode) (m : Mode) → Covers (Some (wanted o m)) m
covers-new None m = (m, refl, at-least-refl m)
covers-new (Some n) m = (cover n m, refl, cover-right n m)

pub covers-taking : (h : Held) (r : Resource) (m : Mode) → Covers (get (insert h r (wanted (get h r) m)) r) m
covers-taking h r m =
    let e : get (insert h r (wanted (get h r) m)) r ≡ Some (wanted (get h r) m) = get-insert h r _ r
    ∙ ap (λ b. cond b (Some (wanted (get h r) m)) (get h r)) (same_key-refl resource_order r) in
    subst (λ o. Covers o m) (sym e) (covers-new (get h r) m)

-- ---- what the requests that are had let be written

holds-in : (h : Held) (have : List Request) (q : Request) → HoldsAll h have → IsIn q have → Covers (get h q.resource) q.mode
holds-in h _ q x here = x.0
holds-in h _ q x (there i) = holds-in h _ q x.1 i

pub holds-plan : (h : Held) (have qs : List Request) → HoldsAll h have → AllIn qs have → HoldsAll h qs
holds-plan h have [] x a = tt
holds-plan h have (q ∷ qs) x a = (holds-in h have q x a.0, holds-plan h have qs x a.1)

pub asks-has : (h : Held) (qs : List Request) (r : Resource) (test : Mode → Bool) → ((n m : Mode) → AtLeast n m → test m ≡ true → test n ≡ true) → HoldsAll h qs
    → asks_on qs r test ≡ true → HasMode h r test
asks-has h [] r test up x e = cc
asks-has h (q ∷ qs) r test up x e =
    ⊎_elim (λ y.
    let b = both_true (same_resource q.resource r) _ y in
    record { mode = x.0.0; is = sym (ap (get h) (same_key-true resource_order q.resource r b.0)) ∙ x.0.1; passes = up x.0.0 q.mode x.0.2 b.1 })
    (λ y. asks-has h qs r test up x.1 y) (either_true (same_resource q.resource r && test q.mode) _ e)

pub writable-can : (h : Held) (qs : List Request) (p : RowPlace) → HoldsAll h qs → writable qs p ≡ true → CanWrite h p
writable-can h qs p x e =
    ⊎_elim (λ y. inl (asks-has h qs (Table p.0) is_exclusive exclusive-up x y))
    (λ y. let b = both_true (asks_on qs (RowOf p.0 p.1) is_exclusive) _ y
    in inr (asks-has h qs (RowOf p.0 p.1) is_exclusive exclusive-up x b.0, asks-has h qs (Table p.0) writes_in writes-up x b.1))
    (either_true (asks_on qs (Table p.0) is_exclusive) _ e)
