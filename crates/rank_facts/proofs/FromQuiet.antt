-- What quiet steps in a sound world give.
use Rattle.std.proofs.Common.{◌≡◌, ◌≢◌, refl, sym, ap, ◌∙◌, ℕ, ◌<◌, true, false, not, ◌&&◌, ◌==◌, List, [], ◌∷◌, length, get_or, Option, Some, None, is_some}
use Rattle.std.proofs.Common.{⊎_elim, eq-eqb}
use Rattle.std.specs.List.{list_all}
use Rattle.finite_maps.specs.Map.{same_key-refl, get}
use Rattle.lock_modes.specs.Resource.{resource_order, same_resource}
use Rattle.lock_modes.specs.Mode.{compatible}
use Rattle.lock_queues.specs.declared.wait.Wait.{Wait}
use Rattle.lock_queues.specs.Locks.{fits, waits_now}
use Rattle.bound_statements.specs.Plan.{Request}
use Rattle.machine_model.specs.World.{World, session_at, look_of, scene_of, send}
use Rattle.bound_specs.specs.Spec.{Step, no_step}
use Rattle.machine_model.specs.Claims.{claims_of, plans}
use Rattle.rank_facts.specs.Quiet.{all_fit, fit_together, all_fit_together, undisturbed, is_quiet}
use Rattle.machine_model.specs.Sound.{Sound}
use Rattle.lock_modes.specs.declared.mode.Mode.{Mode}
use Rattle.lock_modes.specs.declared.resource.Resource.{Resource}
use Rattle.machine_model.proofs.Basics.{Each-swap, Each-list_all, list_all-Each, both_true, either_true, not_true, not_both}
use Rattle.statement_evaluation.proofs.ListLemmas.{Each, Each-map}
use Rattle.machine_model.specs.Footprint.{IsFree}
use Rattle.machine_model.proofs.Footprint.{OverlayUnder}
use Rattle.machine_model.proofs.Effects.{Friends}
use Rattle.rank_facts.proofs.Commute.{Free, Apart, sends-commute}
use Rattle.machine_model.proofs.Claiming.{claims-cases, may_write-more, held-more}
use Rattle.machine_model.proofs.Fitting.{fits-at, together-fits}
use Rattle.lock_modes.proofs.ModeLaws.{compatible-comm}

none_of : (o : Option Mode) → not (is_some o) ≡ true → o ≡ None
none_of None e = refl
none_of (Some m) e = cc

module _ (w : World) (sound : Sound w) where
  free-from : (i : ℕ) (qs : List Request) → i < length w.sessions → waits_now w.waits i ≡ false → all_fit w i qs ≡ true → undisturbed w i qs ≡ true
      → Free w i (session_at w i).held qs
  free-from i qs lt idle fit still =
      let each = Each-list_all (λ (v : Wait). not (is_some (look_of w i v.resource)) && list_all (λ q. not (same_resource v.resource q.resource)) qs)
      w.waits still in
      let unasked = Each-map (λ (v : Wait). (not (is_some (look_of w i v.resource)) && list_all (λ q. not (same_resource v.resource q.resource)) qs) ≡ true)
      (λ v. Each (λ q. not (same_resource v.resource q.resource) ≡ true) qs)
      (λ v e. Each-list_all (λ q. not (same_resource v.resource q.resource)) qs (both_true (not (is_some (look_of w i v.resource))) _ e).1) w.waits each in
      record {
        idle = idle;
        here = lt;
        own = refl;
        asks = both qs (Each-list_all (λ q. fits (length w.sessions) (look_of w) i q.resource q.mode) qs fit)
            (Each-swap (λ (v : Wait) (q : Request). not (same_resource v.resource q.resource) ≡ true) w.waits qs unasked);
        fits = together-fits w sound.steady.together i;
        none_held = Each-map (λ (v : Wait). (not (is_some (look_of w i v.resource)) && list_all (λ q. not (same_resource v.resource q.resource)) qs) ≡ true)
            (λ v. get (session_at w i).held v.resource ≡ None)
            (λ v e. none_of (look_of w i v.resource) (both_true (not (is_some (look_of w i v.resource))) _ e).0) w.waits each;
        none_asked = Each-map (λ (v : Wait). Each (λ q. not (same_resource v.resource q.resource) ≡ true) qs)
            (λ v. Each (λ q. same_resource v.resource q.resource ≡ false) qs)
            (λ v e. Each-map (λ q. not (same_resource v.resource q.resource) ≡ true) (λ q. same_resource v.resource q.resource ≡ false)
            (λ q x. not_true _ x) qs e) w.waits unasked;
        settled = sound.unripe;
      }
    where
      both : (rs : List Request) → Each (λ q. fits (length w.sessions) (look_of w) i q.resource q.mode ≡ true) rs
          → Each (λ q. Each (λ (v : Wait). not (same_resource v.resource q.resource) ≡ true) w.waits) rs
          → Each (λ q. IsFree (scene_of w) i q.resource q.mode) rs
      both [] p q = tt
      both (r ∷ rs) p q = ((p.0, list_all-Each (λ v. not (same_resource v.resource r.resource)) w.waits q.0), both rs p.1 q.1)

  -- the claims of two quiet steps fit together
  friends-from : (i j : ℕ) (qs ps : List Request) → i < length w.sessions → j < length w.sessions → i ≢ j → all_fit w i qs ≡ true → all_fit w j ps ≡ true
      → all_fit_together qs ps ≡ true
      → Friends (claims_of (session_at w i).held qs) (claims_of (session_at w j).held ps)
  friends-from i j qs ps lti ltj ne fi fj fit = record { fit = at }
    where
      ours : Each (λ q. (fits (length w.sessions) (look_of w) i q.resource q.mode ≡ true) × Each (λ p. fit_together q p ≡ true) ps) qs
      ours = zipped qs (Each-list_all (λ q. fits (length w.sessions) (look_of w) i q.resource q.mode) qs fi)
          (Each-map (λ q. list_all (fit_together q) ps ≡ true) (λ q. Each (λ p. fit_together q p ≡ true) ps) (λ q e. Each-list_all (fit_together q) ps e) qs
          (Each-list_all (λ q. list_all (fit_together q) ps) qs fit))
        where
          zipped : (rs : List Request) → Each (λ q. fits (length w.sessions) (look_of w) i q.resource q.mode ≡ true) rs
              → Each (λ q. Each (λ p. fit_together q p ≡ true) ps) rs
              → Each (λ q. (fits (length w.sessions) (look_of w) i q.resource q.mode ≡ true) × Each (λ p. fit_together q p ≡ true) ps) rs
          zipped [] a b = tt
          zipped (r ∷ rs) a b = ((a.0, b.0), zipped rs a.1 b.1)

      theirs : Each (λ q. fits (length w.sessions) (look_of w) j q.resource q.mode ≡ true) ps
      theirs = Each-list_all (λ q. fits (length w.sessions) (look_of w) j q.resource q.mode) ps fj

      met : (q p : Request) (r : Resource) (m n : Mode) → q.resource ≡ r → q.mode ≡ m → p.resource ≡ r → p.mode ≡ n → fit_together q p ≡ true
          → compatible m n ≡ true
      met q p r m n a b c d e =
          let same : same_resource q.resource p.resource ≡ true = ap (λ x. same_resource x p.resource) (a ∙ sym c) ∙ same_key-refl resource_order p.resource in
          ⊎_elim (λ h. absurd (not_both _ same (not_true _ h))) (λ h. (λ k. compatible (sym b k) (sym d k)) ∙ h)
          (either_true (not (same_resource q.resource p.resource)) _ e)

      fits-asked : (q : Request) (r : Resource) (m : Mode) (c : ℕ) → q.resource ≡ r → q.mode ≡ m → fits (length w.sessions) (look_of w) c q.resource q.mode
          ≡ true → fits (length w.sessions) (look_of w) c r m ≡ true
      fits-asked q r m c a b e = (λ k. fits (length w.sessions) (look_of w) c (sym a k) (sym b k)) ∙ e

      at : (r : Resource) (m n : Mode) → claims_of (session_at w i).held qs r m ≡ true → claims_of (session_at w j).held ps r n ≡ true → compatible m n ≡ true
      at r m n x y =
          ⊎_elim
          (λ a. ⊎_elim (λ b. sound.steady.together i j r m n ne a b) (λ b. compatible-comm m n
          ∙ fits-at (length w.sessions) (look_of w) j i r n m lti (λ e. ne (sym e)) a (fits-asked b.0 r n j b.2 b.3 b.1))
          (claims-cases (λ q. fits (length w.sessions) (look_of w) j q.resource q.mode ≡ true) (session_at w j).held ps r n theirs y))
          (λ a. ⊎_elim (λ b. fits-at (length w.sessions) (look_of w) i j r m n ltj ne b (fits-asked a.0 r m i a.2 a.3 a.1.0))
          (λ b. met a.0 b.0 r m n a.2 a.3 b.2 b.3 b.1) (claims-cases (λ p. fit_together a.0 p ≡ true) (session_at w j).held ps r n a.1.1 y))
          (claims-cases (λ q. (fits (length w.sessions) (look_of w) i q.resource q.mode ≡ true) × Each (λ p. fit_together q p ≡ true) ps)
          (session_at w i).held qs r m ours x)

  pub under-from : (i : ℕ) (qs : List Request) → OverlayUnder (claims_of (session_at w i).held qs) (session_at w i).overlay
  under-from i qs = record {
    each = λ p x e. may_write-more (claims_of (session_at w i).held []) (claims_of (session_at w i).held qs)
        (held-more (session_at w i).held qs) p (sound.steady.under i p x e);
  }

  pub apart-from : (s t : Step) → s.session < length w.sessions → t.session < length w.sessions → is_quiet w s t ≡ true
      → Apart w s.session t.session (session_at w s.session) (session_at w t.session) (plans s.statements) (plans t.statements)
  apart-from s t lti ltj quiet =
      let i = s.session in
      let j = t.session in
      let qs = plans s.statements in
      let ps = plans t.statements in
      let a = both_true (not (i == j)) _ quiet in
      let b = both_true (not (waits_now w.waits i)) _ a.1 in
      let c = both_true (not (waits_now w.waits j)) _ b.1 in
      let d = both_true (all_fit w i qs) _ c.1 in
      let e = both_true (all_fit w j ps) _ d.1 in
      let f = both_true (all_fit_together qs ps) _ e.1 in
      let g = both_true (undisturbed w i qs) _ f.1 in
      let ne : i ≢ j = λ x. not_both _ (eq-eqb i j x) (not_true _ a.0) in
      record {
        differ = ne;
        one = free-from i qs lti (not_true _ b.0) d.0 g.0;
        other = free-from j ps ltj (not_true _ c.0) e.0 g.1;
        friends = friends-from i j qs ps lti ltj ne d.0 e.0 f.0;
        one_under = under-from i qs;
        other_under = under-from j ps;
      }

-- quiet steps may be sent in either order
pub quiet-commute : (steps : List Step) (w : World) (k l : ℕ) → Sound w → (get_or steps k no_step).session < length w.sessions
    → (get_or steps l no_step).session < length w.sessions
    → is_quiet w (get_or steps k no_step) (get_or steps l no_step) ≡ true → send steps (send steps w k) l ≡ send steps (send steps w l) k
quiet-commute steps w k l sound lti ltj quiet =
    sends-commute steps w k l (get_or steps k no_step).session (get_or steps l no_step).session (get_or steps k no_step).statements
    (get_or steps l no_step).statements refl refl (apart-from w sound (get_or steps k no_step) (get_or steps l no_step) lti ltj quiet)
