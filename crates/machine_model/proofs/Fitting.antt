-- What fits beside what others hold.
use Rattle.std.proofs.Common.{◌≡◌, ◌≢◌, refl, sym, ap, ◌∙◌, ℕ, zero, suc, ◌<◌, Bool, true, ◌||◌, ◌==◌, length, Option, Some, None, ◌⊎◌, ⊎_elim, arith, eq-eqb}
use Rattle.std.proofs.Common.{eqb-true}
use Rattle.finite_maps.specs.Map.{get}
use Rattle.lock_modes.specs.Mode.{compatible}
use Rattle.lock_queues.specs.Locks.{Look, fits, fits_with, all_below}
use Rattle.machine_model.specs.World.{World, session_at, look_of, scene_of}
use Rattle.machine_model.specs.Sound.{HeldTogether}
use Rattle.lock_modes.specs.declared.mode.Mode.{Mode}
use Rattle.lock_modes.specs.declared.resource.Resource.{Resource}
use Rattle.machine_model.proofs.Basics.{both_true, either_true, or_true_left, or_true_right, not_both, known}
use Rattle.machine_model.specs.Footprint.{HeldFits}
use Rattle.machine_model.proofs.Solo.{all_below-true}

pub all_below-at : (n : ℕ) (f : ℕ → Bool) (c : ℕ) → c < n → all_below n f ≡ true → f c ≡ true
all_below-at zero f c lt e = absurd (omega arith)
all_below-at (suc n) f c lt e =
    let p = both_true (f n) _ e in
    let cases : (c ≡ n) ⊎ (c < n) = grind arith in
    ⊎_elim (λ k. ap f k ∙ p.0) (λ k. all_below-at n f c k p.1) cases

-- what fits beside all others fits beside each
pub fits-at : (n : ℕ) (look : Look) (i j : ℕ) (r : Resource) (m k : Mode) → j < n → i ≢ j → look j r ≡ Some k → fits n look i r m ≡ true → compatible m k ≡ true
fits-at n look i j r m k lt ne is e =
    let at : ((j == i) || fits_with m (look j r)) ≡ true = all_below-at n (λ c. (c == i) || fits_with m (look c r)) j lt e in
    ⊎_elim (λ h. absurd (ne (sym (eqb-true j i h)))) (λ h. ap (fits_with m) (sym is) ∙ h) (either_true (j == i) _ at)

-- what a session holds fits beside what the others hold
pub together-fits : (w : World) → HeldTogether (look_of w) → (i : ℕ) → HeldFits (scene_of w) i (session_at w i).held
together-fits w together i = record { each = λ r m e. all_below-true (length w.sessions) _ (λ c. at r m e c) }
  where
    beside : (m : Mode) (o : Option Mode) → ((n : Mode) → o ≡ Some n → compatible m n ≡ true) → fits_with m o ≡ true
    beside m None f = refl
    beside m (Some n) f = f n refl

    at : (r : Resource) (m : Mode) → get (session_at w i).held r ≡ Some m → (c : ℕ) → ((c == i) || fits_with m (look_of w c r)) ≡ true
    at r m e c = ⊎_elim (λ k. or_true_left (c == i) _ k) (λ k.
        or_true_right (c == i) _ (beside m (look_of w c r) (λ n is. together i c r m n (λ x. not_both _ (eq-eqb c i (sym x)) k) e is))) (known (c == i))
