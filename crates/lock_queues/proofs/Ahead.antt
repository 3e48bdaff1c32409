-- What stands ahead of a wait, one other wait at a time.
use Rattle.std.proofs.Common.{◌≡◌, refl, sym, ap, ◌∙◌, subst, ℕ, Bool, true, false, cond, not, ◌&&◌, ◌||◌, ◌==◌, List, [], ◌∷◌, ◌++◌, filter, ◌⊎◌, inl}
use Rattle.std.proofs.Common.{inr, ⊎_elim, eqb-true}
use Rattle.std.specs.List.{list_any}
use Rattle.std.proofs.lemmas.Bool.{and_from, and_parts, both_ways, not-true, or_cases, or_left, or_right}
use Rattle.lock_modes.specs.Resource.{same_resource}
use Rattle.lock_queues.specs.Locks.{Wait, Spot, Look, fits_with, wanted_by, converts, ahead, is_empty, holds_up, waits_now}
use Rattle.lock_queues.specs.Queue.{is_ahead, is_held_up_by, some_holds_up, spot_marks}

empty-filter : (p : Wait → Bool) (ws : List Wait) → is_empty (filter p ws) ≡ not (list_any p ws)
empty-filter p [] = refl
empty-filter p (w ∷ ws) = at (p w) (empty-filter p ws)
  where
    at : (b : Bool) → is_empty (filter p ws) ≡ not (list_any p ws) → is_empty (cond b (w ∷ filter p ws) (filter p ws)) ≡ not (b || list_any p ws)
    at true e = refl
    at false e = e

empty-append : (us vs : List Wait) → is_empty (us ++ vs) ≡ (is_empty us && is_empty vs)
empty-append [] vs = refl
empty-append (u ∷ us) vs = refl

any-same : (f g : Wait → Bool) → ((w : Wait) → f w ≡ g w) → (ws : List Wait) → list_any f ws ≡ list_any g ws
any-same f g e [] = refl
any-same f g e (w ∷ ws) = λ i. e w i || any-same f g e ws i

any-none : (f : Wait → Bool) → ((w : Wait) → f w ≡ false) → (ws : List Wait) → list_any f ws ≡ false
any-none f e [] = refl
any-none f e (w ∷ ws) = (λ i. e w i || any-none f e ws i)

and-false : (b : Bool) → (b && false) ≡ false
and-false true = refl
and-false false = refl

and-one : (b : Bool) → (b && true) ≡ b
and-one true = refl
and-one false = refl

-- nothing is ahead where no other wait is
pub first-is : (look : Look) (s : Spot) → (not (list_any (is_ahead look s.wait true) s.before) && not (list_any (is_ahead look s.wait false) s.after))
    ≡ is_empty (ahead look s)
first-is look s = at (converts look s.wait)
  where
    at : (c : Bool)
        → (not (list_any (λ (v : Wait). same_resource v.resource s.wait.resource && cond c (true && converts look v) (true || converts look v)) s.before)
        && not (list_any (λ (v : Wait). same_resource v.resource s.wait.resource && cond c (false && converts look v) (false || converts look v)) s.after))
        ≡ is_empty (cond c (filter (λ (v : Wait). same_resource v.resource s.wait.resource && converts look v) s.before)
        (filter (λ (v : Wait). same_resource v.resource s.wait.resource) s.before
        ++ filter (λ (v : Wait). same_resource v.resource s.wait.resource && converts look v) s.after))
    at true =
        ap (λ b. not (list_any (λ (v : Wait). same_resource v.resource s.wait.resource && converts look v) s.before) && not b)
        (any-none (λ (v : Wait). same_resource v.resource s.wait.resource && false) (λ v. and-false (same_resource v.resource s.wait.resource)) s.after)
        ∙ and-one _ ∙ sym (empty-filter (λ (v : Wait). same_resource v.resource s.wait.resource && converts look v) s.before)
    at false =
        ap (λ b. not b && not (list_any (λ (v : Wait). same_resource v.resource s.wait.resource && converts look v) s.after))
        (any-same (λ (v : Wait). same_resource v.resource s.wait.resource && true)
        (λ (v : Wait). same_resource v.resource s.wait.resource) (λ v. and-one (same_resource v.resource s.wait.resource)) s.before)
        ∙ (λ i. sym (empty-filter (λ (v : Wait). same_resource v.resource s.wait.resource) s.before) i
        && sym (empty-filter (λ (v : Wait). same_resource v.resource s.wait.resource && converts look v) s.after) i)
        ∙ sym (empty-append (filter (λ (v : Wait). same_resource v.resource s.wait.resource) s.before)
        (filter (λ (v : Wait). same_resource v.resource s.wait.resource && converts look v) s.after))

-- ---- whom a wait waits for, among the sessions that wait

any-filter : (f g : Wait → Bool) (ws : List Wait) → list_any g (filter f ws) ≡ list_any (λ w. g w && f w) ws
any-filter f g [] = refl
any-filter f g (w ∷ ws) = at (f w) (any-filter f g ws)
  where
    at : (b : Bool) → list_any g (filter f ws) ≡ list_any (λ w. g w && f w) ws → list_any g (cond b (w ∷ filter f ws) (filter f ws))
        ≡ ((g w && b) || list_any (λ w. g w && f w) ws)
    at true e = λ i. sym (and-one (g w)) i || e i
    at false e = e ∙ ap (λ b. b || list_any (λ w. g w && f w) ws) (sym (and-false (g w)))

pub any-append : (f : Wait → Bool) (us vs : List Wait) → list_any f (us ++ vs) ≡ (list_any f us || list_any f vs)
any-append f [] vs = refl
any-append f (u ∷ us) vs = ap (λ b. f u || b) (any-append f us vs) ∙ or-assoc (f u) (list_any f us) (list_any f vs)
  where
    or-assoc : (a b c : Bool) → (a || (b || c)) ≡ ((a || b) || c)
    or-assoc true b c = refl
    or-assoc false b c = refl

or-false : (b : Bool) → (b || false) ≡ b
or-false true = refl
or-false false = refl

any-more : (f g : Wait → Bool) → ((w : Wait) → f w ≡ true → g w ≡ true) → (ws : List Wait) → list_any f ws ≡ true → list_any g ws ≡ true
any-more f g h [] e = e
any-more f g h (w ∷ ws) e = ⊎_elim (λ k. or_left _ _ (h w k)) (λ k. or_right (g w) _ (any-more f g h ws k)) (or_cases (f w) _ e)

module _ (look : Look) (b : ℕ) where
  abbrev one-ahead : Wait → Bool → Wait → Bool
  one-ahead w earlier v = (v.session == b) && is_ahead look w earlier v

  -- a session's wait is ahead where it is so before or after
  pub ahead-any : (s : Spot) → list_any (λ (w : Wait). w.session == b) (ahead look s)
      ≡ (list_any (one-ahead s.wait true) s.before || list_any (one-ahead s.wait false) s.after)
  ahead-any s = at (converts look s.wait)
    where
      at : (c : Bool)
          → list_any (λ (w : Wait). w.session == b) (cond c (filter (λ (v : Wait). same_resource v.resource s.wait.resource && converts look v) s.before)
          (filter (λ (v : Wait). same_resource v.resource s.wait.resource) s.before
          ++ filter (λ (v : Wait). same_resource v.resource s.wait.resource && converts look v) s.after))
          ≡ (list_any (λ (v : Wait). (v.session == b) &&
          (same_resource v.resource s.wait.resource && cond c (true && converts look v) (true || converts look v))) s.before
          || list_any (λ (v : Wait). (v.session == b) &&
          (same_resource v.resource s.wait.resource && cond c (false && converts look v) (false || converts look v))) s.after)
      at true =
          any-filter (λ (v : Wait). same_resource v.resource s.wait.resource && converts look v) (λ (w : Wait). w.session == b) s.before ∙ sym (or-false _)
          ∙ ap (λ t. list_any (λ (v : Wait). (v.session == b) && (same_resource v.resource s.wait.resource && converts look v)) s.before || t)
          (sym (any-none (λ (v : Wait). (v.session == b) && (same_resource v.resource s.wait.resource && false))
          (λ v. ap (λ t. (v.session == b) && t) (and-false (same_resource v.resource s.wait.resource)) ∙ and-false (v.session == b)) s.after))
      at false =
          any-append (λ (w : Wait). w.session == b) (filter (λ (v : Wait). same_resource v.resource s.wait.resource) s.before)
          (filter (λ (v : Wait). same_resource v.resource s.wait.resource && converts look v) s.after)
          ∙ (λ i. (any-filter (λ (v : Wait). same_resource v.resource s.wait.resource) (λ (w : Wait). w.session == b) s.before
          ∙ any-same (λ (v : Wait). (v.session == b) && same_resource v.resource s.wait.resource)
          (λ (v : Wait). (v.session == b) && (same_resource v.resource s.wait.resource && true))
          (λ v. ap (λ t. (v.session == b) && t) (sym (and-one (same_resource v.resource s.wait.resource)))) s.before) i
          || any-filter (λ (v : Wait). same_resource v.resource s.wait.resource && converts look v) (λ (w : Wait). w.session == b) s.after i)

  -- the mode that the session holds there keeps the wait from being granted
  abbrev conflicts : Wait → Bool
  conflicts w = not (fits_with (wanted_by look w) (look b w.resource))

  side-sound : (w : Wait) (earlier : Bool) (others : List Wait) → some_holds_up look w earlier others b ≡ true
      → (not (w.session == b) ≡ true) × ((conflicts w ≡ true) ⊎ (list_any (one-ahead w earlier) others ≡ true))
  side-sound w earlier [] e = cc
  side-sound w earlier (v ∷ vs) e = ⊎_elim here
      (λ k. let r = side-sound w earlier vs k in (r.0, ⊎_elim inl (λ h. inr (or_right (one-ahead w earlier v) _ h)) r.1))
      (or_cases ((v.session == b) && is_held_up_by look w earlier v) _ e)
    where
      here : ((v.session == b) && is_held_up_by look w earlier v) ≡ true → (not (w.session == b) ≡ true)
          × ((conflicts w ≡ true) ⊎ (list_any (one-ahead w earlier) (v ∷ vs) ≡ true))
      here h =
          let p = and_parts (v.session == b) _ h in
          let same : v.session ≡ b = eqb-true v.session b p.0 in
          let q = and_parts (not (w.session == v.session)) _ p.1 in (
            subst (λ x. not (w.session == x) ≡ true) same q.0,
            ⊎_elim (λ k. inl (subst (λ x. not (fits_with (wanted_by look w) (look x w.resource)) ≡ true) same k)) (λ k. inr (or_left _ _ (and_from _ _ p.0 k)))
                (or_cases (not (fits_with (wanted_by look w) (look v.session w.resource))) _ q.1),
          )

  side-held : (w : Wait) (earlier : Bool) (others : List Wait) → not (w.session == b) ≡ true → conflicts w ≡ true → waits_now others b ≡ true
      → some_holds_up look w earlier others b ≡ true
  side-held w earlier others n c = any-more (λ (v : Wait). v.session == b) (λ (v : Wait). (v.session == b) && is_held_up_by look w earlier v)
      (λ v h. let same : b ≡ v.session = sym (eqb-true v.session b h) in and_from _ _ h
      (and_from _ _ (subst (λ x. not (w.session == x) ≡ true) same n)
      (or_left _ _ (subst (λ x. not (fits_with (wanted_by look w) (look x w.resource)) ≡ true) same c)))) others

  side-ahead : (w : Wait) (earlier : Bool) (others : List Wait) → not (w.session == b) ≡ true → list_any (one-ahead w earlier) others ≡ true
      → some_holds_up look w earlier others b ≡ true
  side-ahead w earlier others n = any-more (one-ahead w earlier) (λ (v : Wait). (v.session == b) && is_held_up_by look w earlier v)
      (λ v h. let p = and_parts (v.session == b) _ h in let same : b ≡ v.session = sym (eqb-true v.session b p.0) in
      and_from _ _ p.0 (and_from _ _ (subst (λ x. not (w.session == x)
      ≡ true) same n) (or_right (not (fits_with (wanted_by look w) (look v.session w.resource))) _ p.1))) others

  -- who is marked holds the wait up
  pub marks-sound : (s : Spot) (a : ℕ) → spot_marks look s a b ≡ true → ((s.wait.session == a) && holds_up look s b) ≡ true
  marks-sound s a e =
      let p = and_parts (s.wait.session == a) _ e in
      and_from _ _ p.0 (⊎_elim (λ k. let r = side-sound s.wait true s.before k in
      and_from _ _ r.0 (⊎_elim (λ h. or_left _ _ h) (λ h. or_right (conflicts s.wait) _ (ahead-any s ∙ or_left _ _ h)) r.1))
      (λ k. let r = side-sound s.wait false s.after k in and_from _ _ r.0
      (⊎_elim (λ h. or_left _ _ h) (λ h. or_right (conflicts s.wait) _ (ahead-any s ∙ or_right (list_any (one-ahead s.wait true) s.before) _ h)) r.1))
      (or_cases (some_holds_up look s.wait true s.before b) _ p.1))

  -- and each session that waits and holds it up is marked
  pub marks-all : (s : Spot) (a : ℕ) → waits_now (s.before ++ s.wait ∷ s.after) b ≡ true → ((s.wait.session == a) && holds_up look s b) ≡ true
      → spot_marks look s a b ≡ true
  marks-all s a now e =
      let p = and_parts (s.wait.session == a) _ e in
      let q = and_parts (not (s.wait.session == b)) _ p.1 in
      and_from _ _ p.0 (⊎_elim (held q.0) (λ h. aheads q.0 (or_cases (list_any (one-ahead s.wait true) s.before) _ (sym (ahead-any s)
      ∙ h))) (or_cases (conflicts s.wait) _ q.1))
    where
      aheads : not (s.wait.session == b) ≡ true → (list_any (one-ahead s.wait true) s.before ≡ true) ⊎ (list_any (one-ahead s.wait false) s.after ≡ true)
          → (some_holds_up look s.wait true s.before b || some_holds_up look s.wait false s.after b) ≡ true
      aheads n (inl h) = or_left _ _ (side-ahead s.wait true s.before n h)
      aheads n (inr h) = or_right (some_holds_up look s.wait true s.before b) _ (side-ahead s.wait false s.after n h)

      held : not (s.wait.session == b) ≡ true → conflicts s.wait ≡ true
          → (some_holds_up look s.wait true s.before b || some_holds_up look s.wait false s.after b) ≡ true
      held n c =
          ⊎_elim (λ h. or_left _ _ (side-held s.wait true s.before n c h))
          (λ h. ⊎_elim (λ k. absurd (both_ways (s.wait.session == b) (not-true _ n) k))
          (λ k. or_right (some_holds_up look s.wait true s.before b) _ (side-held s.wait false s.after n c k)) (or_cases (s.wait.session == b) _ h))
          (or_cases (waits_now s.before b) _ (sym (any-append (λ (w : Wait). w.session == b) s.before (s.wait ∷ s.after)) ∙ now))
