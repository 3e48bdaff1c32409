-- The letters tell what sessions are told, and who still waits.
use Rattle.std.proofs.Common.{◌≡◌, refl, sym, ap, ◌∙◌, subst, ◌↔◌, ℕ, zero, suc, ◌<◌, Bool, true, List, [], ◌∷◌, ◌++◌, map, take, length}
use Rattle.std.proofs.Common.{get_or, Option, Some, None, ◌⊎◌, inl, inr, ⊎_elim, arith}
use Rattle.std.specs.List.{list_any}
use Rattle.std.proofs.lemmas.Bool.{or_cases, or_left, or_right}
use Rattle.lock_queues.specs.Locks.{waits_now}
use Rattle.lock_queues.specs.Reasons.{Among, Want}
use Rattle.lock_queues.proofs.Edges.{want-found, want-waits}
use Rattle.events.specs.declared.event.Event.{Event}
use Rattle.binding_model.specs.declared.tables.Table.{Table}
use Rattle.machine_model.specs.declared.status.Status.{Status}
use Rattle.machine_model.specs.declared.status.Status.TheVariants.{Outside, InBlock, Broken}
use Rattle.machine_model.specs.Session.{Session}
use Rattle.machine_model.specs.World.{World, look_of, session_at, fresh}
use Rattle.line_moments.specs.Moments.{want_in}
use Rattle.line_moments.specs.declared.shown.Standing.{Standing}
use Rattle.line_moments.specs.Left.{standing_by, standing_of, standings}
use Rattle.order_classes.specs.Shows.{rest_of, shows_in}
use Rattle.order_classes.specs.Letters.{is_waiting, is_wait, is_deadlock, is_other_error, is_unsent, tells, letter_s}
use Rattle.order_classes.specs.Laws.{IsTold, LettersAreTold}

-- ---- what one of a list passes

any-has : {A : Type 0} (test : A → Bool) (xs : List A) → list_any test xs ≡ true → (x : A) × Among x xs × (test x ≡ true)
any-has test [] h = cc
any-has test (x ∷ xs) h =
    ⊎_elim (λ e. (x, inl refl, e)) (λ k. let r = any-has test xs k in (r.0, inr r.1, r.2)) (or_cases (test x) (list_any test xs) h)

any-from : {A : Type 0} (test : A → Bool) (xs : List A) (x : A) → Among x xs → test x ≡ true → list_any test xs ≡ true
any-from test [] x m e = absurd m
any-from test (y ∷ ys) x (inl same) e = or_left (test y) (list_any test ys) (ap test (sym same) ∙ e)
any-from test (y ∷ ys) x (inr m) e = or_right (test y) (list_any test ys) (any-from test ys x m e)

-- ---- who still waits

abbrev waits : Standing → Bool
waits x = is_waiting (rest_of x)

abbrev still : List Standing → Bool
still xs = list_any is_waiting (map rest_of xs)

still-before : (xs : List Standing) (x : Standing) → still xs ≡ true → still (xs ++ x ∷ []) ≡ true
still-before [] x h = cc
still-before (y ∷ ys) x h =
    ⊎_elim (λ e. or_left (waits y) (still (ys ++ x ∷ [])) e) (λ k. or_right (waits y) (still (ys ++ x ∷ [])) (still-before ys x k))
    (or_cases (waits y) (still ys) h)

still-last : (xs : List Standing) (x : Standing) → waits x ≡ true → still (xs ++ x ∷ []) ≡ true
still-last [] x h = or_left (waits x) (still []) h
still-last (y ∷ ys) x h = or_right (waits y) (still (ys ++ x ∷ [])) (still-last ys x h)

still-parts : (xs : List Standing) (x : Standing) → still (xs ++ x ∷ []) ≡ true → (still xs ≡ true) ⊎ (waits x ≡ true)
still-parts [] x h = ⊎_elim (λ e. inr e) (λ k. inl k) (or_cases (waits x) (still []) h)
still-parts (y ∷ ys) x h =
    ⊎_elim (λ e. inl (or_left (waits y) (still ys) e))
    (λ k. ⊎_elim (λ a. inl (or_right (waits y) (still ys) a)) (λ b. inr b) (still-parts ys x k)) (or_cases (waits y) (still (ys ++ x ∷ [])) h)

wants : (o : Option Want) (b : Status) → waits (standing_by o b) ≡ true → (want : Want) × (o ≡ Some want)
wants (Some want) b h = (want, refl)
wants None Outside h = cc
wants None (InBlock level) h = cc
wants None Broken h = cc

waits-so : (w : World) (i : ℕ) → (waits (standing_of w i) ≡ true) ↔ (waits_now w.waits i ≡ true)
waits-so w i = (
  λ h. (let x = wants (want_in w i) (session_at w i).status h in want-waits (length w.sessions) (look_of w) w.waits i x.0 x.1),
  λ h. (let x = want-found (length w.sessions) (look_of w) w.waits i h in ap (λ o. waits (standing_by o (session_at w i).status)) x.1),
)

still-has : (n : ℕ) (w : World) → still (standings n w) ≡ true → (i : ℕ) × (i < n) × (waits_now w.waits i ≡ true)
still-has zero w h = cc
still-has (suc n) w h =
    ⊎_elim (λ a. let r = still-has n w a in let lt : r.0 < n = r.1 in (r.0, omega (arith, lt), r.2)) (λ b. (n, omega arith, (waits-so w n).0 b))
    (still-parts (standings n w) (standing_of w n) h)

still-from : (n : ℕ) (w : World) (i : ℕ) → i < n → waits_now w.waits i ≡ true → still (standings n w) ≡ true
still-from zero w i lt h = absurd (omega (arith, lt))
still-from (suc n) w i lt h =
    let cases : (i < n) ⊎ (i ≡ n) = grind (arith, lt) in
    ⊎_elim (λ l. still-before (standings n w) (standing_of w n) (still-from n w i l h))
    (λ e. still-last (standings n w) (standing_of w n) ((waits-so w n).1 (subst (λ k. waits_now w.waits k ≡ true) e h))) cases

pub letter-s-exact : (tables : List Table) (sessions : ℕ) (w : World)
    → (letter_s (shows_in tables sessions w) ≡ true) ↔ ((i : ℕ) × (i < sessions) × (waits_now w.waits i ≡ true))
letter-s-exact tables sessions w = (still-has sessions w, λ x. still-from sessions w x.0 x.1 x.2)

-- ---- what is told

abbrev told : ℕ → List Session → List (List Event)
told n ss = map (λ (s : Session). s.transcript) (take n ss)

told-has : (test : Event → Bool) (n : ℕ) (ss : List Session) → list_any (list_any test) (told n ss) ≡ true
    → (i : ℕ) × (i < n) × (e : Event) × Among e (get_or ss i fresh).transcript × (test e ≡ true)
told-has test zero ss h = cc
told-has test (suc n) [] h = cc
told-has test (suc n) (s ∷ ss) h =
    ⊎_elim (λ a. let r = any-has test s.transcript a in (0, omega arith, r.0, r.1, r.2))
    (λ b. let r = told-has test n ss b in let lt : r.0 < n = r.1 in (suc r.0, omega (arith, lt), r.2, r.3, r.4))
    (or_cases (list_any test s.transcript) (list_any (list_any test) (told n ss)) h)

told-from : (test : Event → Bool) (n : ℕ) (ss : List Session) (i : ℕ) → i < n → (e : Event) → Among e (get_or ss i fresh).transcript → test e ≡ true
    → list_any (list_any test) (told n ss) ≡ true
told-from test zero ss i lt e m h = absurd (omega (arith, lt))
told-from test (suc n) [] i lt e m h = absurd m
told-from test (suc n) (s ∷ ss) zero lt e m h =
    or_left (list_any test s.transcript) (list_any (list_any test) (told n ss)) (any-from test s.transcript e m h)
told-from test (suc n) (s ∷ ss) (suc i) lt e m h =
    or_right (list_any test s.transcript) (list_any (list_any test) (told n ss)) (told-from test n ss i (omega (arith, lt)) e m h)

tells-told : (test : Event → Bool) (tables : List Table) (sessions : ℕ) (w : World) → (tells test (shows_in tables sessions w) ≡ true) ↔ IsTold test sessions w
tells-told test tables sessions w = (told-has test sessions w.sessions, λ x. told-from test sessions w.sessions x.0 x.1 x.2 x.3 x.4)

pub letters-told : LettersAreTold
letters-told tables sessions w = (
  tells-told is_wait tables sessions w,
  tells-told is_deadlock tables sessions w,
  tells-told is_other_error tables sessions w,
  tells-told is_unsent tables sessions w,
)
