-- The test whether a mode fits beside the sessions of a world is the rule over all sessions.
use Rattle.std.specs.Prelude.{◌↔◌, IsTrue}
use Rattle.std.specs.Cmp.{both_ways}
use Rattle.std.proofs.Common.{◌≡◌, ◌<◌, ◌≤◌, ◌∙◌, refl, ap, arith, ℕ, zero, suc, Bool, true, ◌||◌, ◌==◌, length, None, ◌⊎◌, ⊎_elim, eqb-true, eq-eqb}
use Rattle.std.proofs.lemmas.Bool.{and_from, and_parts, cases_eq, or_cases, or_left, or_right}
use Rattle.std.proofs.lemmas.List.{get_or_past}
use Rattle.finite_maps.specs.Map.{get, get-empty}
use Rattle.lock_modes.specs.declared.mode.Mode.{Mode}
use Rattle.lock_modes.specs.Resource.{resource_order}
use Rattle.lock_modes.specs.declared.resource.Resource.{Resource}
use Rattle.lock_queues.specs.Locks.{all_below, fits, fits_with}
use Rattle.lock_queues.specs.LockTable.{Fits}
use Rattle.machine_model.specs.Session.{Session}
use Rattle.machine_model.specs.World.{World, fresh, look_of}

below-at : (n : ℕ) (test : ℕ → Bool) (c : ℕ) → c < n → all_below n test ≡ true → test c ≡ true
below-at zero test c lt e = absurd (omega arith)
below-at (suc n) test c lt e =
    let p = and_parts (test n) _ e in
    let at : (c ≡ n) ⊎ (c < n) = grind arith in
    ⊎_elim (λ k. ap test k ∙ p.0) (λ l. below-at n test c l p.1) at

below-true : (n : ℕ) (test : ℕ → Bool) → ((c : ℕ) → test c ≡ true) → all_below n test ≡ true
below-true zero test h = refl
below-true (suc n) test h = and_from _ _ (h n) (below-true n test h)

module _ (w : World) (i : ℕ) (r : Resource) (m : Mode) where
  -- past its sessions nobody holds anything
  nobody : (c : ℕ) → length w.sessions ≤ c → look_of w c r ≡ None
  nobody c le = ap (λ (s : Session). get s.held r) (get_or_past w.sessions c fresh le) ∙ get-empty resource_order Mode r

  all-fits : Fits (look_of w) i r m → fits (length w.sessions) (look_of w) i r m ≡ true
  all-fits f = below-true (length w.sessions) _
      (λ c. ⊎_elim (λ k. or_left (c == i) _ (eq-eqb c i k)) (λ k. or_right (c == i) _ (f c k)) (cases_eq c i))

  fits-all : fits (length w.sessions) (look_of w) i r m ≡ true → Fits (look_of w) i r m
  fits-all e c ne =
      let at : (c < length w.sessions) ⊎ (length w.sessions ≤ c) = grind arith in
      ⊎_elim (λ lt. ⊎_elim (λ h. absurd (ne (eqb-true c i h))) (λ h. h)
      (or_cases (c == i) _ (below-at (length w.sessions) (λ c. (c == i) || fits_with m (look_of w c r)) c lt e)))
      (λ le. ap (fits_with m) (nobody c le)) at

  -- what decides the rule is the test
  pub fits-is : (b : Bool) → (IsTrue b ↔ Fits (look_of w) i r m) → b ≡ fits (length w.sessions) (look_of w) i r m
  fits-is b is = both_ways b (fits (length w.sessions) (look_of w) i r m) (λ e. all-fits (is.0 e)) (λ e. is.1 (fits-all e))
