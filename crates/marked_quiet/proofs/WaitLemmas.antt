-- Nobody waits at places that fail a test where no session does.
use Rattle.std.specs.List.{find, list_all}
use Rattle.std.specs.Option.{option_map}
use Rattle.std.proofs.Common.{◌≡◌, ◌≢◌, ◌<◌, ◌∙◌, refl, sym, ap, subst, ℕ, eqb-true, eq-eqb}
use Rattle.std.proofs.Common.{Bool, true, false, cond, ◌&&◌, ◌==◌, List, [], ◌∷◌, Option, Some, None}
use Rattle.lock_modes.specs.declared.resource.Resource.{Resource}
use Rattle.lock_queues.specs.declared.wait.Wait.{Wait}
use Rattle.lock_queues.specs.Sound.{EachWait, Distinct}
use Rattle.bound_statements.specs.Plan.{Request}
use Rattle.machine_model.specs.World.{World}
use Rattle.rank_facts.specs.Quiet.{undisturbed}
use Rattle.marked_quiet.specs.Waiting.{clear_of, is_free, wait_of}

and-false : (b : Bool) → (b && false) ≡ false
and-false true = refl
and-false false = refl

abbrev place_of : Wait → Resource
place_of v = v.resource

-- the first wait of a session
abbrev first_of : ℕ → List Wait → Option Wait
first_of k vs = find (λ (v : Wait). v.session == k) vs

none-left : (k : ℕ) (vs : List Wait) → EachWait (λ u. u.session ≢ k) vs → first_of k vs ≡ None
none-left k [] differ = refl
none-left k (v ∷ vs) differ = at (v.session == k) refl (none-left k vs differ.1)
  where
    at : (b : Bool) → (v.session == k) ≡ b → first_of k vs ≡ None → cond b (Some v) (first_of k vs) ≡ None
    at true e rest = absurd (differ.0 (eqb-true v.session k e))
    at false e rest = rest

module _ (w : World) (i : ℕ) (qs : List Request) where
  abbrev is_clear_at : Wait → Bool
  is_clear_at v = is_free w i qs v.resource

  abbrev clear_for : Option Wait → Bool
  clear_for o = clear_of w i qs (option_map place_of o)

  fails-in : (k : ℕ) (vs : List Wait) → clear_for (first_of k vs) ≡ false → list_all is_clear_at vs ≡ false
  fails-in k [] e = cc
  fails-in k (v ∷ vs) e = at (v.session == k) e (fails-in k vs)
    where
      at : (b : Bool) → clear_for (cond b (Some v) (first_of k vs)) ≡ false → (clear_for (first_of k vs) ≡ false → list_all is_clear_at vs ≡ false)
          → (is_clear_at v && list_all is_clear_at vs) ≡ false
      at true fails rest = ap (λ b. b && list_all is_clear_at vs) fails
      at false fails rest = ap (λ b. is_clear_at v && b) (rest fails) ∙ and-false (is_clear_at v)

  holds-in : (n : ℕ) (vs : List Wait) → EachWait (λ v. v.session < n) vs → Distinct vs → ((k : ℕ) → k < n → clear_for (first_of k vs) ≡ true)
      → list_all is_clear_at vs ≡ true
  holds-in n [] known distinct all = refl
  holds-in n (v ∷ vs) known distinct all = λ j. here j && holds-in n vs known.1 distinct.1 later j
    where
      here : is_clear_at v ≡ true
      here = sym (ap (λ b. clear_for (cond b (Some v) (first_of v.session vs))) (eq-eqb v.session v.session refl)) ∙ all v.session known.0

      later : (k : ℕ) → k < n → clear_for (first_of k vs) ≡ true
      later k lt = at (v.session == k) refl (all k lt)
        where
          at : (b : Bool) → (v.session == k) ≡ b → clear_for (cond b (Some v) (first_of k vs)) ≡ true → clear_for (first_of k vs) ≡ true
          at true e h = ap clear_for (none-left k vs (subst (λ m. EachWait (λ u. u.session ≢ m) vs) (eqb-true v.session k e) distinct.0))
          at false e h = h

  -- a session that waits where it should not is enough
  pub disturbed : (k : ℕ) → clear_of w i qs (wait_of w k) ≡ false → false ≡ undisturbed w i qs
  disturbed k fails = sym (fails-in k w.waits fails)

  -- where no session does nobody does
  pub nobody-disturbs : (n : ℕ) → EachWait (λ v. v.session < n) w.waits → Distinct w.waits → ((k : ℕ) → k < n → clear_of w i qs (wait_of w k) ≡ true)
      → true ≡ undisturbed w i qs
  nobody-disturbs n known distinct all = sym (holds-in n w.waits known distinct all)
