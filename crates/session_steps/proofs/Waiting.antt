-- Who waits after a move of a session.
use Rattle.std.proofs.Common.{◌≡◌, ◌≢◌, refl, sym, ap, ◌∙◌, ℕ, Bool, true, false, ◌||◌, ◌==◌, List, [], ◌∷◌, ◌++◌, eqb-true, eq-eqb}
use Rattle.lock_modes.specs.declared.mode.Mode.{Mode}
use Rattle.lock_modes.specs.declared.resource.Resource.{Resource}
use Rattle.lock_queues.specs.declared.wait.Wait.{Wait}
use Rattle.lock_queues.specs.Locks.{waits_now}
use Rattle.lock_queues.specs.LockTable.{Locks, queued}
use Rattle.machine_model.specs.declared.status.Status.{Status}
use Rattle.machine_model.specs.declared.status.Status.TheVariants.{Outside, InBlock, Broken}
use Rattle.session_steps.specs.Going.{Standing, WaitsIf, finished_by_status, finished_in}
use Rattle.machine_model.proofs.Basics.{or_true_right}
use Rattle.session_steps.proofs.States.{waits-let_go}

or-swap : (b : Bool) → (b || false) ≡ b
or-swap true = refl
or-swap false = refl

or-assoc : (a b c : Bool) → (a || (b || c)) ≡ ((a || b) || c)
or-assoc true b c = refl
or-assoc false b c = refl

-- a wait at the end
waits-push : (ws : List Wait) (v : Wait) (c : ℕ) → waits_now (ws ++ v ∷ []) c ≡ (waits_now ws c || (v.session == c))
waits-push [] v c = or-swap (v.session == c)
waits-push (w ∷ ws) v c = ap (λ b. (w.session == c) || b) (waits-push ws v c) ∙ or-assoc (w.session == c) (waits_now ws c) (v.session == c)

pub apart : (i c : ℕ) → c ≢ i → (i == c) ≡ false
apart i c ne = at (i == c) refl
  where
    at : (b : Bool) → (i == c) ≡ b → b ≡ false
    at true is = absurd (ne (sym (eqb-true i c is)))
    at false is = refl

-- the session waits now
pub queued-waits : (t : Locks) (i : ℕ) (r : Resource) (m : Mode) → WaitsIf i t (queued t i r m) true
queued-waits t i r m =
    let v : Wait = record { session = i; resource = r; mode = m } in
    record {
      own = waits-push t.waits v i ∙ or_true_right (waits_now t.waits i) (i == i) (eq-eqb i i refl);
      others = λ c ne. waits-push t.waits v c ∙ ap (λ b. waits_now t.waits c || b) (apart i c ne) ∙ or-swap (waits_now t.waits c);
    }

-- nobody begins to wait or stops
pub still-waits : (i : ℕ) (t u : Locks) → u.waits ≡ t.waits → waits_now t.waits i ≡ false → WaitsIf i t u false
still-waits i t u same idle = record { own = ap (λ ws. waits_now ws i) same ∙ idle; others = λ c ne. ap (λ ws. waits_now ws c) same }

-- from a table with the same waits
pub waits-from : (i : ℕ) (s t u : Locks) (b : Bool) → t.waits ≡ s.waits → WaitsIf i t u b → WaitsIf i s u b
waits-from i s t u b same w = record { own = w.own; others = λ c ne. w.others c ne ∙ ap (λ ws. waits_now ws c) same }

-- a step that ends leaves the waits
pub finished-waits : (i : ℕ) (x : Standing) → waits_now x.locks.waits i ≡ false → (finished_in i x).locks.waits ≡ x.locks.waits
finished-waits i x idle = at x.own.status
  where
    at : (status : Status) → (finished_by_status status i x).locks.waits ≡ x.locks.waits
    at Outside = waits-let_go x.locks i idle
    at (InBlock level) = refl
    at Broken = refl
