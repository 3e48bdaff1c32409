-- What the tests of a pair of steps come to.
use Rattle.std.specs.List.{find, list_all, list_any}
use Rattle.std.proofs.Common.{◌≡◌, ◌≢◌, refl, sym, ap, ◌∙◌, ℕ, zero, suc, ◌+◌, ◌<◌, ◌≤◌, Bool, true, false, cond, not, ◌&&◌, ◌||◌, ◌==◌, List, [], ◌∷◌, length}
use Rattle.std.proofs.Common.{get_or, Option, Some, None, is_some, option_map, ◌⊎◌, ⊎_elim, arith, eqb-true, eq-eqb, add-one}
use Rattle.lock_modes.specs.Resource.{same_resource}
use Rattle.lock_modes.specs.declared.mode.Mode.{Mode}
use Rattle.lock_modes.specs.declared.resource.Resource.{Resource}
use Rattle.lock_queues.specs.declared.wait.Wait.{Wait}
use Rattle.lock_queues.specs.Locks.{all_below, wanted_by, waits_now}
use Rattle.lock_queues.specs.Sound.{EachWait, Distinct}
use Rattle.bound_statements.specs.Plan.{Request}
use Rattle.bound_statements.specs.declared.statement.Bound.{Bound}
use Rattle.bound_specs.specs.Spec.{Step}
use Rattle.machine_model.specs.World.{World, look_of}
use Rattle.session_machine.specs.Running.{Running, held_in, wait_in}
use Rattle.rank_facts.specs.Quiet.{is_quiet, all_fit, all_fit_together, undisturbed}
use Rattle.machine_model.specs.Claims.{plans}
use Rattle.session_machine.specs.Running.{IsKnown}
use Rattle.bound_specs.specs.Spec.{no_step}
use Rattle.rank_facts.proofs.FromQuiet.{quiet-commute}
use Rattle.rank_facts.proofs.Calm.{quiet-calm}
use Rattle.step_reducer.specs.Pairs.{clear_of, is_quiet_in, session_of, HaveOneEnd, AreCalm}

-- ---- a test of each session

pub below-more : (test : ℕ → Bool) (n : ℕ) → all_below n test ≡ true → test n ≡ true → all_below (n + 1) test ≡ true
below-more test n all here = ap (λ m. all_below m test) (add-one n) ∙ (λ k. here k && all k)

and-false : (b : Bool) → (b && false) ≡ false
and-false true = refl
and-false false = refl

pub below-false : (test : ℕ → Bool) (n k : ℕ) → k < n → test k ≡ false → all_below n test ≡ false
below-false test zero k lt fails = absurd (omega arith)
below-false test (suc n) k lt fails = ⊎_elim (λ e. ap (λ b. b && all_below n test) (ap test (sym e) ∙ fails))
    (λ h. ap (λ b. test n && b) (below-false test n k h fails) ∙ and-false (test n)) cases
  where
    cases : (k ≡ n) ⊎ (k < n)
    cases = grind arith

-- ---- what a world that is not spent tells

pub held-whole : (r : Running) (i : ℕ) (at : Resource) → r.spent ≡ false → held_in r i at ≡ look_of r.world i at
held-whole r i at e = ap (λ s. (let o : Option Mode = elim s [ true ↦ None | false ↦ look_of r.world i at ] in o)) e

abbrev told : World → Wait → Resource × Mode
told w v = (v.resource, wanted_by (look_of w) v)

pub wait-whole : (r : Running) (i : ℕ) → r.spent ≡ false → wait_in r i ≡ option_map (told r.world) (find (λ (v : Wait). v.session == i) r.world.waits)
wait-whole r i e = ap (λ s. (let o : Option (Resource × Mode) =
    elim s [ true ↦ None | false ↦ option_map (told r.world) (find (λ (v : Wait). v.session == i) r.world.waits) ] in o)) e

pub found-any : (p : Wait → Bool) (w : World) (vs : List Wait) → is_some (option_map (told w) (find p vs)) ≡ list_any p vs
found-any p w [] = refl
found-any p w (v ∷ vs) = at (p v) (found-any p w vs)
  where
    at : (b : Bool) → is_some (option_map (told w) (find p vs)) ≡ list_any p vs → is_some (option_map (told w) (cond b (Some v) (find p vs)))
        ≡ (b || list_any p vs)
    at true rest = refl
    at false rest = rest

-- where a session waits, nobody's hold or request is
clear_at : World → ℕ → List Request → Option (Resource × Mode) → Bool
clear_at w i qs None = true
clear_at w i qs (Some p) = not (is_some (look_of w i p.0)) && list_all (λ q. not (same_resource p.0 q.resource)) qs

clear-same : (w : World) (i : ℕ) (qs : List Request) (o : Option Wait) → clear_at w i qs (option_map (told w) o) ≡ clear_of w i qs o
unfolding clear_at
clear-same w i qs None = refl
clear-same w i qs (Some v) = refl

pub clear-none : (w : World) (i : ℕ) (qs : List Request) (o : Option Wait) → None ≡ option_map (told w) o → true ≡ clear_of w i qs o
unfolding clear_at
clear-none w i qs o e = ap (clear_at w i qs) e ∙ clear-same w i qs o

pub clear-some : (w : World) (i : ℕ) (qs : List Request) (o : Option Wait) (r : Resource) (m : Mode) → Some (r, m) ≡ option_map (told w) o
    → (not (is_some (look_of w i r)) && list_all (λ q. not (same_resource r q.resource)) qs) ≡ clear_of w i qs o
unfolding clear_at
clear-some w i qs o r m e = ap (clear_at w i qs) e ∙ clear-same w i qs o

-- ---- all waits

module _ (test : Wait → Bool) where
  abbrev pub passes : Option Wait → Bool
  passes o = (let b : Bool = elim o [ None ↦ true | Some v ↦ test v ] in b)

  pub waits-false : (k : ℕ) (vs : List Wait) → passes (find (λ (v : Wait). v.session == k) vs) ≡ false → list_all test vs ≡ false
  waits-false k [] e = cc
  waits-false k (v ∷ vs) e = at (v.session == k) e (λ h. waits-false k vs h)
    where
      at : (b : Bool) → passes (cond b (Some v) (find (λ (u : Wait). u.session == k) vs)) ≡ false
          → (passes (find (λ (u : Wait). u.session == k) vs) ≡ false → list_all test vs ≡ false) → (test v && list_all test vs) ≡ false
      at true h rec = ap (λ b. b && list_all test vs) h
      at false h rec = ap (λ b. test v && b) (rec h) ∙ and-false (test v)

  none-left : (k : ℕ) (vs : List Wait) → EachWait (λ u. u.session ≢ k) vs → find (λ (u : Wait). u.session == k) vs ≡ None
  none-left k [] d = refl
  none-left k (v ∷ vs) d = at (v.session == k) refl (none-left k vs d.1)
    where
      at : (b : Bool) → (v.session == k) ≡ b → find (λ (u : Wait). u.session == k) vs ≡ None → cond b (Some v) (find (λ (u : Wait). u.session == k) vs) ≡ None
      at true e rest = absurd (d.0 (eqb-true v.session k e))
      at false e rest = rest

  pub waits-true : (n : ℕ) (vs : List Wait) → EachWait (λ v. v.session < n) vs → Distinct vs
      → ((k : ℕ) → k < n → passes (find (λ (v : Wait). v.session == k) vs) ≡ true) → list_all test vs ≡ true
  waits-true n [] known distinct all = refl
  waits-true n (v ∷ vs) known distinct all = λ j. here j && waits-true n vs known.1 distinct.1 later j
    where
      here : test v ≡ true
      here = sym (ap (λ b. passes (cond b (Some v) (find (λ (u : Wait). u.session == v.session) vs))) (eq-eqb v.session v.session refl)) ∙ all v.session known.0

      later : (k : ℕ) → k < n → passes (find (λ (u : Wait). u.session == k) vs) ≡ true
      later k lt = at (v.session == k) refl (all k lt)
        where
          at : (b : Bool) → (v.session == k) ≡ b → passes (cond b (Some v) (find (λ (u : Wait). u.session == k) vs)) ≡ true
              → passes (find (λ (u : Wait). u.session == k) vs) ≡ true
          at true e h = (let same = eqb-true v.session k e in
              ap passes (none-left k vs (Rattle.std.proofs.Common.subst (λ m. EachWait (λ u. u.session ≢ m) vs) same distinct.0)))
          at false e h = h

-- ---- eight tests in turn

abbrev pub parts : World → ℕ → ℕ → List Bound → List Bound → Bool
parts w i j ss ts =
    not (i == j) && (not (waits_now w.waits i) && (not (waits_now w.waits j)
    && (all_fit w i (plans ss) && (all_fit w j (plans ts) &&
    (all_fit_together (plans ss) (plans ts) && (undisturbed w i (plans ss) && undisturbed w j (plans ts)))))))

pub quiet-parts : (w : World) (s t : Step) (i j : ℕ) (ss ts : List Bound) → i ≡ s.session → j ≡ t.session → ss ≡ s.statements → ts ≡ t.statements
    → is_quiet w s t ≡ parts w i j ss ts
quiet-parts w s t i j ss ts a b c d = λ k. parts w (sym a k) (sym b k) (sym c k) (sym d k)

module _ (a b c d e f g h : Bool) where
  abbrev all : Bool
  all = a && (b && (c && (d && (e && (f && (g && h))))))

  pub stop1 : a ≡ false → all ≡ false
  stop1 p = λ k. p k && (b && (c && (d && (e && (f && (g && h))))))

  pub stop2 : a ≡ true → b ≡ false → all ≡ false
  stop2 p q = λ k. p k && (q k && (c && (d && (e && (f && (g && h))))))

  pub stop3 : a ≡ true → b ≡ true → c ≡ false → all ≡ false
  stop3 p q r = λ k. p k && (q k && (r k && (d && (e && (f && (g && h))))))

  pub stop4 : a ≡ true → b ≡ true → c ≡ true → d ≡ false → all ≡ false
  stop4 p q r s = λ k. p k && (q k && (r k && (s k && (e && (f && (g && h))))))

  pub stop5 : a ≡ true → b ≡ true → c ≡ true → d ≡ true → e ≡ false → all ≡ false
  stop5 p q r s t = λ k. p k && (q k && (r k && (s k && (t k && (f && (g && h))))))

  pub stop6 : a ≡ true → b ≡ true → c ≡ true → d ≡ true → e ≡ true → f ≡ false → all ≡ false
  stop6 p q r s t u = λ k. p k && (q k && (r k && (s k && (t k && (u k && (g && h))))))

  pub stop7 : a ≡ true → b ≡ true → c ≡ true → d ≡ true → e ≡ true → f ≡ true → g ≡ false → all ≡ false
  stop7 p q r s t u v = λ k. p k && (q k && (r k && (s k && (t k && (u k && (v k && h))))))

  pub go7 : a ≡ true → b ≡ true → c ≡ true → d ≡ true → e ≡ true → f ≡ true → g ≡ true → all ≡ h
  go7 p q r s t u v = λ k. p k && (q k && (r k && (s k && (t k && (u k && (v k && h))))))

-- ---- what quiet steps do

-- only in a world that is not spent steps are quiet
pub quiet-unspent : (r : Running) (k l : ℕ) → is_quiet_in r k l ≡ true → r.spent ≡ false
quiet-unspent r k l e = at r.spent refl e
  where
    at : (b : Bool) → r.spent ≡ b → (let x : Bool =
        elim b [ true ↦ false | false ↦ is_quiet r.world (get_or r.file.run.steps k no_step) (get_or r.file.run.steps l no_step) ] in x) ≡ true
        → r.spent ≡ false
    at true is h = cc
    at false is h = is

module _ (r : Running) (k l : ℕ) (known : IsKnown r) (first : session_of r k < r.file.run.sessions) (second : session_of r l < r.file.run.sessions)
    (quiet : is_quiet r.world (get_or r.file.run.steps k no_step) (get_or r.file.run.steps l no_step) ≡ true) where
  first-of : session_of r k < length r.world.sessions
  first-of = let count = known.sessions in omega (arith, count, first)

  second-of : session_of r l < length r.world.sessions
  second-of = let count = known.sessions in omega (arith, count, second)

  pub one-end : HaveOneEnd r k l
  one-end = quiet-commute r.file.run.steps r.world k l known.sound first-of second-of quiet

  pub calm : AreCalm r k l
  calm =
      let both = quiet-calm r.file.run.steps r.world k l known.sound first-of second-of quiet in
      record {
        first = both.0.0;
        first_waits = both.0.1;
        first_others = both.0.2;
        both = (both.1.0, both.1.1);
        both_waits = both.1.2;
        both_others = both.1.3;
      }
