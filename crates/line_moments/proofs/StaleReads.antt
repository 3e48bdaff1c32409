-- What is the same, and what reading on comes to.
use Rattle.std.proofs.Common.{◌≡◌, ◌≢◌, refl, sym, ap, ◌∙◌, subst, suc, ◌≤◌, Bool, true, false, ◌&&◌, List, [], ◌∷◌, length, arith}
use Rattle.std.specs.Prelude.{◌↔◌, IsTrue}
use Rattle.finite_maps.specs.Map.{same_key, same_key-true, same_key-refl}
use Rattle.lock_modes.specs.Value.{value_order}
use Rattle.lock_modes.specs.declared.value.Value.{Value}
use Rattle.events.specs.declared.event.Event.{Event}
use Rattle.events.specs.declared.event.Event.TheVariants.{Sent, Row as RowEvent, Rows, Inserted, Updated, Deleted, Began, Committed, RolledBack}
use Rattle.events.specs.declared.event.Event.TheVariants.{Locked, Set, Warned, Failed, Waiting, Resumed, Done, NotSent}
use Rattle.line_moments.specs.declared.reads.Reads.{Reads}
use Rattle.line_moments.specs.Reads.{read_on}
use Rattle.line_moments.specs.Stale.{same_values, same_event, same_events}

-- ---- the same values

and-left : (a b : Bool) → (a && b) ≡ true → a ≡ true
and-left true b h = refl
and-left false b h = h

and-right : (a b : Bool) → (a && b) ≡ true → b ≡ true
and-right true b h = h
and-right false b h = absurd (let k : false ≡ true = h in cc)

pub values-same : (vs ws : List Value) → same_values vs ws ≡ true → vs ≡ ws
values-same [] [] h = refl
values-same [] (w ∷ ws) h = cc
values-same (v ∷ vs) [] h = cc
values-same (v ∷ vs) (w ∷ ws) h =
    (λ i. same_key-true value_order v w (and-left (same_key value_order v w) (same_values vs ws) h) i
    ∷ values-same vs ws (and-right (same_key value_order v w) (same_values vs ws) h) i)

values-refl : (vs : List Value) → same_values vs vs ≡ true
values-refl [] = refl
values-refl (v ∷ vs) = λ i. same_key-refl value_order v i && values-refl vs i

-- an answer that is right is this one
pub values-by : (vs ws : List Value) (b : Bool) → (IsTrue b ↔ (vs ≡ ws)) → b ≡ same_values vs ws
values-by vs ws true h = sym (subst (λ us. same_values vs us ≡ true) (h.0 refl) (values-refl vs))
values-by vs ws false h = at (same_values vs ws) refl
  where
    at : (c : Bool) → same_values vs ws ≡ c → false ≡ same_values vs ws
    at true e = absurd (let k : false ≡ true = h.1 (values-same vs ws e) in cc)
    at false e = sym e

-- lists of which one is longer are not the same
pub longer : (es fs : List Event) → length es ≢ length fs → same_events es fs ≡ false
longer [] [] ne = absurd (ne refl)
longer [] (f ∷ fs) ne = refl
longer (e ∷ es) [] ne = refl
longer (e ∷ es) (f ∷ fs) ne = ap (λ b. same_event e f && b) (longer es fs (λ h. ne (ap suc h))) ∙ none (same_event e f)
  where
    none : (b : Bool) → (b && false) ≡ false
    none true = refl
    none false = refl

-- ---- reading on

-- with each event one statement more may have ended
pub place-on : (x : Reads) (e : Event) → (read_on x e).place ≤ suc x.place
place-on x (Sent k) = omega arith
place-on x (RowEvent r) = omega arith
place-on x (Rows n) = omega arith
place-on x (Inserted n) = omega arith
place-on x (Updated n) = omega arith
place-on x (Deleted n) = omega arith
place-on x Began = omega arith
place-on x Committed = omega arith
place-on x RolledBack = omega arith
place-on x Locked = omega arith
place-on x Set = omega arith
place-on x (Warned w) = omega arith
place-on x (Failed f) = omega arith
place-on x Waiting = omega arith
place-on x Resumed = omega arith
place-on x Done = omega arith
place-on x (NotSent k) = omega arith
