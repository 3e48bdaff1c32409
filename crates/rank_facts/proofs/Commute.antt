-- Two steps that do not meet may be sent in either order.
use Rattle.std.proofs.Common.{◌≡◌, ◌≢◌, refl, sym, ap, ◌∙◌, subst, ℕ, zero, suc, ◌<◌, Bool, true, false, cond, ◌&&◌, ◌||◌, ◌==◌, List, [], ◌∷◌, ◌++◌, length}
use Rattle.std.proofs.Common.{set, get_or, filter, Option, Some, None, is_some, ◌⊎◌, inl, inr, ⊎_elim, length-set, get_or-set_same, get_or-set_other}
use Rattle.std.proofs.lemmas.List.{set_comm}
use Rattle.finite_maps.specs.Map.{same_key, same_key-true, get, get-insert, get-empty, same_map}
use Rattle.lock_modes.specs.RowPlace.{RowPlace}
use Rattle.lock_modes.specs.Rows.{Rows'}
use Rattle.lock_modes.specs.Resource.{resource_order, same_resource}
use Rattle.lock_modes.specs.Mode.{compatible, cover}
use Rattle.lock_queues.specs.declared.wait.Wait.{Wait}
use Rattle.lock_queues.specs.Locks.{Spot, Look, fits, fits_with, wanted, wanted_by, all_below, waits_now, converts, ahead, is_empty, is_ripe, first_ripe}
use Rattle.lock_queues.specs.Locks.{next_grant, spots_from}
use Rattle.bound_statements.specs.Levels.{is_unlocked, asked}
use Rattle.bound_statements.specs.Plan.{Request, plan, nowait}
use Rattle.bound_statements.proofs.LevelLemmas.{asked-locked, asked-unlocked}
use Rattle.machine_model.proofs.Levels.{plan-in_status}
use Rattle.machine_model.specs.declared.status.Status.{Status}
use Rattle.machine_model.specs.Session.{Task, Do, Session, Held, behind, in_status, tasks_of, asks, note}
use Rattle.machine_model.specs.Go.{Stop, solo}
use Rattle.machine_model.specs.World.{World, fresh, session_at, look_of, scene_of, placed_back, goes, settle, left_to_do, send}
use Rattle.bound_specs.specs.Spec.{Step, no_step}
use Rattle.machine_model.specs.Claims.{Claims, may_write, claims_of, plans}
use Rattle.lock_modes.specs.declared.mode.Mode.{Mode}
use Rattle.events.specs.declared.event.Event.TheVariants.{Sent, NotSent}
use Rattle.lock_modes.specs.declared.resource.Resource.{Resource}
use Rattle.bound_statements.specs.declared.statement.Bound.{Bound}
use Rattle.machine_model.proofs.Basics.{Each-left, Each-right, filter_same, both_true, and_true, or_true_right, known, cases-eq}
use Rattle.perm_ranks.proofs.TruthLemmas.{Each-append}
use Rattle.statement_evaluation.proofs.ListLemmas.{Each, Each-map}
use Rattle.lock_modes.proofs.ModeLaws.{compatible-cover, compatible-comm}
use Rattle.machine_model.specs.Footprint.{EachAsk, EachDo, HeldFits, IsFree}
use Rattle.machine_model.proofs.Solo.{Keeps, go-solo, solo-held}
use Rattle.machine_model.proofs.Footprint.{OverlayUnder, SameStop, solo-same, solo-within, ReadsOff, WritesUnder}
use Rattle.machine_model.proofs.Effects.{Friends, writes-under, reads-off, not_both_write}
use Rattle.machine_model.proofs.Claiming.{claims-asked, claims-held}
use Rattle.machine_model.proofs.SettleSteps.{settled-at}

ask-tasks : (P : Resource → Mode → Type 0) (n : Bool) (qs : List Request) (ts : List Task) → Each (λ q. P q.resource q.mode) qs → EachAsk P ts
    → EachAsk P (asks n qs ts)
ask-tasks P n [] ts each h = h
ask-tasks P n (q ∷ qs) ts each h = (each.0, ask-tasks P n qs ts each.1 h)

-- what a statement asks for is of its plan
each-asked : (Q : Request → Type 0) (x : Status) (st : Bound) → Each Q (plan st) → Each Q (asked (in_status x st))
each-asked Q x st each = by (is_unlocked (in_status x st)) refl
  where
    by : (b : Bool) → is_unlocked (in_status x st) ≡ b → Each Q (asked (in_status x st))
    by true is = subst (Each Q) (sym (asked-unlocked (in_status x st) is)) tt
    by false is = subst (Each Q) (sym (asked-locked (in_status x st) is ∙ plan-in_status x st)) each

pub asks-of : (P : Resource → Mode → Type 0) (x : Status) (ss : List Bound) → Each (λ q. P q.resource q.mode) (plans ss) → EachAsk P (tasks_of x ss)
asks-of P x [] each = tt
asks-of P x (s ∷ ss) each =
    let st = in_status x s in
    ask-tasks P (nowait st) (asked st) (Do st ∷ tasks_of (behind x s) ss)
    (each-asked (λ (q : Request). P q.resource q.mode) x s (Each-left (λ (q : Request). P q.resource q.mode) (plan s) (plans ss) each))
    (asks-of P (behind x s) ss (Each-right (λ (q : Request). P q.resource q.mode) (plan s) (plans ss) each))

do-tasks : (P : Bound → Type 0) (n : Bool) (qs : List Request) (ts : List Task) → EachDo P ts → EachDo P (asks n qs ts)
do-tasks P n [] ts h = h
do-tasks P n (q ∷ qs) ts h = do-tasks P n qs ts h

pub dos-of : (Q : Request → Type 0) (P : Bound → Type 0) → ((s : Bound) → Each Q (plan s) → P s) → (x : Status) (ss : List Bound) → Each Q (plans ss)
    → EachDo P (tasks_of x ss)
dos-of Q P f x [] each = tt
dos-of Q P f x (s ∷ ss) each =
    let st = in_status x s in
    do-tasks P (nowait st) (asked st) (Do st ∷ tasks_of (behind x s) ss) (
      f st (subst (Each Q) (sym (plan-in_status x s)) (Each-left Q (plan s) (plans ss) each)),
      dos-of Q P f (behind x s) ss (Each-right Q (plan s) (plans ss) each),
    )

-- ---- what is ripe depends on the look-ups where somebody waits

-- both find the same there, for every session
abbrev pub SameAt : Look → Look → Resource → Type 0
SameAt a b r = (c : ℕ) → a c r ≡ b c r

all_below-same : (n : ℕ) (f g : ℕ → Bool) → ((c : ℕ) → f c ≡ g c) → all_below n f ≡ all_below n g
all_below-same zero f g h = refl
all_below-same (suc n) f g h = λ i. h n i && all_below-same n f g h i

module _ (a b : Look) where
  fits-same : (n i : ℕ) (r : Resource) (m : Mode) → SameAt a b r → fits n a i r m ≡ fits n b i r m
  fits-same n i r m h = all_below-same n _ _ (λ c. ap (λ o. (c == i) || fits_with m o) (h c))

  converts-same : (w : Wait) → SameAt a b w.resource → converts a w ≡ converts b w
  converts-same w h = ap is_some (h w.session)

  there-same : (r : Resource) (ws : List Wait) → Each (λ w. SameAt a b w.resource) ws → filter (λ w. same_resource w.resource r && converts a w) ws
      ≡ filter (λ w. same_resource w.resource r && converts b w) ws
  there-same r ws each = filter_same _ _ ws (Each-map (λ w. SameAt a b w.resource)
      (λ w. (same_resource w.resource r && converts a w) ≡ (same_resource w.resource r && converts b w))
      (λ w h. ap (λ t. same_resource w.resource r && t) (converts-same w h)) ws each)

  ahead-same : (s : Spot) → Each (λ w. SameAt a b w.resource) s.before → SameAt a b s.wait.resource → Each (λ w. SameAt a b w.resource) s.after
      → ahead a s ≡ ahead b s
  ahead-same s before here after =
      λ i. cond (converts-same s.wait here i) (there-same s.wait.resource s.before before i)
      (filter (λ w. same_resource w.resource s.wait.resource) s.before ++ there-same s.wait.resource s.after after i)

  ripe-same : (n : ℕ) (s : Spot) → Each (λ w. SameAt a b w.resource) s.before → SameAt a b s.wait.resource → Each (λ w. SameAt a b w.resource) s.after
      → is_ripe n a s ≡ is_ripe n b s
  ripe-same n s before here after =
      let f : fits n a s.wait.session s.wait.resource (wanted_by a s.wait) ≡ fits n b s.wait.session s.wait.resource (wanted_by b s.wait) =
      ap (λ o. fits n a s.wait.session s.wait.resource (wanted o s.wait.mode)) (here s.wait.session)
      ∙ fits-same n s.wait.session s.wait.resource (wanted_by b s.wait) here in
      λ i. f i && is_empty (ahead-same s before here after i)

  first-same : (n : ℕ) (before after : List Wait) → Each (λ w. SameAt a b w.resource) before → Each (λ w. SameAt a b w.resource) after
      → first_ripe n a (spots_from before after) ≡ first_ripe n b (spots_from before after)
  first-same n before [] p q = refl
  first-same n before (w ∷ after) p q =
      let s : Spot = record { before = before; wait = w; after = after } in
      λ i. cond (ripe-same n s p q.0 q.1 i) (Some s)
      (first-same n (before ++ w ∷ []) after (Each-append (λ w. SameAt a b w.resource) before (w ∷ []) p (q.0, tt)) q.1 i)

  pub next-same : (n : ℕ) (ws : List Wait) → Each (λ w. SameAt a b w.resource) ws → next_grant n a ws ≡ next_grant n b ws
  next-same n ws each = first-same n [] ws tt each

-- ---- a session that goes alone in a world

-- the world after the session has gone alone
abbrev pub after : World → ℕ → Stop → World
after w i x = record { rows = x.rows; sessions = set w.sessions i x.session; waits = w.waits }

-- all that lets a session with these requests go alone. `held` is what it holds
pub record Free (w : World) (i : ℕ) (held : Held) (qs : List Request) : Type 0 where
  pub idle : waits_now w.waits i ≡ false
  pub here : i < length w.sessions
  pub own : look_of w i ≡ get held
  pub asks : Each (λ q. IsFree (scene_of w) i q.resource q.mode) qs
  pub fits : HeldFits (scene_of w) i held
  pub none_held : Each (λ v. get held v.resource ≡ None) w.waits
  pub none_asked : Each (λ v. Each (λ q. same_resource v.resource q.resource ≡ false) qs) w.waits
  pub settled : next_grant (length w.sessions) (look_of w) w.waits ≡ None

-- what a request of another resource leaves as it is
keeps-none : (r q : Resource) (m : Mode) → same_resource r q ≡ false → Keeps (λ h. get h r ≡ None) q m
keeps-none r q m off h none = get-insert h q _ r ∙ ap (λ b. cond b (Some (wanted (get h q) m)) (get h r)) off ∙ none

pub look-other : (w : World) (i c : ℕ) (x : Stop) → c ≢ i → session_at (after w i x) c ≡ session_at w c
look-other w i c x ne = get_or-set_other w.sessions i c x.session fresh ne

pub look-here : (w : World) (i : ℕ) (x : Stop) → i < length w.sessions → session_at (after w i x) i ≡ x.session
look-here w i x lt = get_or-set_same w.sessions i x.session fresh lt

-- where the session changes nothing that it holds at a resource, all look-ups there stay
same-after : (w : World) (i : ℕ) (x : Stop) (r : Resource) → i < length w.sessions → get x.session.held r ≡ get (session_at w i).held r
    → SameAt (look_of (after w i x)) (look_of w) r
same-after w i x r lt e c =
    ⊎_elim (λ k. subst (λ d. get (session_at (after w i x) d).held r ≡ get (session_at w d).held r) (sym k) (ap (λ s. get s.held r) (look-here w i x lt) ∙ e))
    (λ k. ap (λ s. get s.held r) (look-other w i c x k)) (cases-eq c i)

-- no wait is ripe after the session has gone
still-settled : (w : World) (i : ℕ) (s : Session) (qs : List Request) (x : Stop) → Free w i s.held qs → Each (λ v. get x.session.held v.resource ≡ None) w.waits
    → next_grant (length (after w i x).sessions) (look_of (after w i x)) (after w i x).waits ≡ None
still-settled w i s qs x free none =
    let e : next_grant (length (set w.sessions i x.session)) (look_of (after w i x)) w.waits ≡ next_grant (length w.sessions)
    (look_of (after w i x)) w.waits = ap (λ n. next_grant n (look_of (after w i x)) w.waits) (length-set w.sessions i x.session) in
    e ∙ next-same (look_of (after w i x)) (look_of w) (length w.sessions) w.waits (both w.waits none free.none_held) ∙ free.settled
  where
    both : (vs : List Wait) → Each (λ v. get x.session.held v.resource ≡ None) vs → Each (λ v. get s.held v.resource ≡ None) vs
        → Each (λ v. SameAt (look_of (after w i x)) (look_of w) v.resource) vs
    both [] p q = tt
    both (v ∷ vs) p q = (same-after w i x v.resource free.here (p.0 ∙ sym q.0 ∙ sym (ap (λ f. f v.resource) free.own)), both vs p.1 q.1)

-- nothing is held, after the step, where somebody waits
none-after : (s : Session) (rows : Rows') (ss : List Bound) (vs : List Wait) → Each (λ v. get s.held v.resource ≡ None) vs
    → Each (λ v. Each (λ q. same_resource v.resource q.resource ≡ false) (plans ss)) vs
    → Each (λ v. get (solo s rows (tasks_of s.status ss)).session.held v.resource ≡ None) vs
none-after s rows ss [] p q = tt
none-after s rows ss (v ∷ vs) p q = (
  solo-held (λ h. get h v.resource ≡ None) (get-empty resource_order Mode v.resource) s rows (tasks_of s.status ss)
      (asks-of (Keeps (λ h. get h v.resource ≡ None)) s.status ss
      (Each-map (λ q. same_resource v.resource q.resource ≡ false) (λ q. Keeps (λ h. get h v.resource ≡ None) q.resource q.mode)
      (λ q off. keeps-none v.resource q.resource q.mode off) (plans ss) q.0)) p.0,
  none-after s rows ss vs p.1 q.1,
)

-- a free session goes alone, and nobody wakes
pub goes-alone : (w : World) (i : ℕ) (s : Session) (ss : List Bound) → Free w i s.held (plans ss)
    → settle (goes w i s (tasks_of s.status ss)) ≡ after w i (solo s w.rows (tasks_of s.status ss))
goes-alone w i s ss free =
    let x : Stop = solo s w.rows (tasks_of s.status ss) in
    let gone : goes w i s (tasks_of s.status ss) ≡ after w i x =
    ap (placed_back w i) (go-solo (scene_of w) i s w.rows (tasks_of s.status ss) (asks-of (IsFree (scene_of w) i) s.status ss free.asks) free.fits) in
    ap settle gone ∙ settled-at (left_to_do (after w i x)) (after w i x)
    (still-settled w i s (plans ss) x free (none-after s w.rows ss w.waits free.none_held free.none_asked))

-- ---- two sides

pub record Apart (w : World) (i j : ℕ) (s t : Session) (qs ps : List Request) : Type 0 where
  pub differ : i ≢ j
  pub one : Free w i s.held qs
  pub other : Free w j t.held ps
  pub friends : Friends (claims_of s.held qs) (claims_of t.held ps)
  pub one_under : OverlayUnder (claims_of s.held qs) s.overlay
  pub other_under : OverlayUnder (claims_of t.held ps) t.overlay

friends-flip : (a b : Claims) → Friends a b → Friends b a
friends-flip a b f = record { fit = λ r m n p q. compatible-comm m n ∙ f.fit r n m q p }

apart-flip : (w : World) (i j : ℕ) (s t : Session) (qs ps : List Request) → Apart w i j s t qs ps → Apart w j i t s ps qs
apart-flip w i j s t qs ps a = record {
  differ = λ e. a.differ (sym e);
  one = a.other;
  other = a.one;
  friends = friends-flip _ _ a.friends;
  one_under =
      a.other_under;
  other_under = a.one_under;
}

-- ---- what the one holds after its step fits beside what the other claims

fits_with-wanted : (m n : Mode) (o : Option Mode) → fits_with m o ≡ true → compatible m n ≡ true → fits_with m (Some (wanted o n)) ≡ true
fits_with-wanted m n None f c = c
fits_with-wanted m n (Some x) f c = compatible-comm m (cover x n) ∙ compatible-cover x n m ∙ and_true _ _ (compatible-comm x m ∙ f) (compatible-comm n m ∙ c)

keeps-fit : (r q : Resource) (m n : Mode) → (r ≡ q → compatible m n ≡ true) → Keeps (λ h. fits_with m (get h r) ≡ true) q n
keeps-fit r q m n c h f = ap (fits_with m) (get-insert h q (wanted (get h q) n) r) ∙ at (same_key resource_order r q) refl
  where
    at : (b : Bool) → same_key resource_order r q ≡ b → fits_with m (cond (same_key resource_order r q) (Some (wanted (get h q) n)) (get h r)) ≡ true
    at true same =
        let e : r ≡ q = same_key-true resource_order r q same in
        ap (λ b. fits_with m (cond b (Some (wanted (get h q) n)) (get h r))) same
        ∙ fits_with-wanted m n (get h q) (subst (λ x. fits_with m (get h x) ≡ true) e f) (c e)
    at false same = ap (λ b. fits_with m (cond b (Some (wanted (get h q) n)) (get h r))) same ∙ f

fits_with-held : (m : Mode) (o : Option Mode) → ((n : Mode) → o ≡ Some n → compatible m n ≡ true) → fits_with m o ≡ true
fits_with-held m None f = refl
fits_with-held m (Some n) f = f n refl

-- the mode that is claimed beside the one's step fits what the one holds after it
fits-after-step : (s : Session) (rows : Rows') (ss : List Bound) (theirs : Claims) → Friends (claims_of s.held (plans ss)) theirs → (r : Resource) (m : Mode)
    → theirs r m ≡ true → fits_with m (get (solo s rows (tasks_of s.status ss)).session.held r) ≡ true
fits-after-step s rows ss theirs friends r m claim =
    solo-held (λ h. fits_with m (get h r) ≡ true) (ap (fits_with m) (get-empty resource_order Mode r)) s rows (tasks_of s.status ss)
    (asks-of (Keeps (λ h. fits_with m (get h r) ≡ true)) s.status ss
    (Each-map (λ q. claims_of s.held (plans ss) q.resource q.mode ≡ true) (λ q. Keeps (λ h. fits_with m (get h r) ≡ true) q.resource q.mode)
    (λ q c. keeps-fit r q.resource m q.mode (λ e. compatible-comm m q.mode ∙ friends.fit q.resource q.mode m c (subst (λ x. theirs x m ≡ true) e claim)))
    (plans ss) (claims-asked s.held (plans ss))))
    (fits_with-held m (get s.held r) (λ n e. compatible-comm m n ∙ friends.fit r n m (claims-held s.held (plans ss) r n e) claim))

all_below-from : (n : ℕ) (f g : ℕ → Bool) → ((c : ℕ) → f c ≡ true → g c ≡ true) → all_below n f ≡ true → all_below n g ≡ true
all_below-from zero f g h e = refl
all_below-from (suc n) f g h e = let p = both_true (f n) _ e in and_true _ _ (h n p.0) (all_below-from n f g h p.1)

-- what fitted still fits
fits-after : (w : World) (i j : ℕ) (x : Stop) (r : Resource) (m : Mode) → i < length w.sessions → fits (length w.sessions) (look_of w) j r m ≡ true
    → fits_with m (get x.session.held r) ≡ true
    → fits (length (after w i x).sessions) (look_of (after w i x)) j r m ≡ true
fits-after w i j x r m lt f new =
    ap (λ n. fits n (look_of (after w i x)) j r m) (length-set w.sessions i x.session)
    ∙ all_below-from (length w.sessions) (λ c. (c == j) || fits_with m (look_of w c r)) (λ c. (c == j) || fits_with m (look_of (after w i x) c r)) at f
  where
    at : (c : ℕ) → ((c == j) || fits_with m (look_of w c r)) ≡ true → ((c == j) || fits_with m (look_of (after w i x) c r)) ≡ true
    at c e =
        ⊎_elim (λ k. or_true_right (c == j) _ (ap (λ d. fits_with m (look_of (after w i x) d r)) k
        ∙ ap (λ s. fits_with m (get s.held r)) (look-here w i x lt) ∙ new))
        (λ k. ap (λ s. (c == j) || fits_with m (get s.held r)) (look-other w i c x k) ∙ e) (cases-eq c i)

-- after the one's step the other is as free as before
still-free : (w : World) (i j : ℕ) (s t : Session) (ss : List Bound) (ps : List Request) → Apart w i j s t (plans ss) ps
    → Free (after w i (solo s w.rows (tasks_of s.status ss))) j t.held ps
still-free w i j s t ss ps a =
    let x : Stop = solo s w.rows (tasks_of s.status ss) in
    let theirs : Claims = claims_of t.held ps in
    let ne : j ≢ i = λ e. a.differ (sym e) in
    record {
      idle = a.other.idle;
      here = subst (λ n. j < n) (sym (length-set w.sessions i x.session)) a.other.here;
      own = ap (λ (s : Session). get s.held) (look-other w i j x ne) ∙ a.other.own;
      asks = both ps a.other.asks (claims-asked t.held ps);
      fits = record {
        each = λ r m e. fits-after w i j x r m a.one.here (a.other.fits.each r m e)
            (fits-after-step s w.rows ss theirs a.friends r m (claims-held t.held ps r m e));
      };
      none_held = a.other.none_held;
      none_asked = a.other.none_asked;
      settled = still-settled w i s (plans ss) x a.one (none-after s w.rows ss w.waits a.one.none_held a.one.none_asked);
    }
  where
    both : (rs : List Request) → Each (λ q. IsFree (scene_of w) j q.resource q.mode) rs → Each (λ q. claims_of t.held ps q.resource q.mode ≡ true) rs
        → Each (λ q. IsFree (scene_of (after w i (solo s w.rows (tasks_of s.status ss)))) j q.resource q.mode) rs
    both [] p q = tt
    both (r ∷ rs) p q = (
      (
        fits-after w i j (solo s w.rows (tasks_of s.status ss)) r.resource r.mode a.one.here p.0.0
            (fits-after-step s w.rows ss (claims_of t.held ps) a.friends r.resource r.mode q.0),
        p.0.1,
      ),
      both rs p.1 q.1,
    )

-- ---- both orders

reads-apart : (s t : Session) (ts : List Bound) (qs : List Request) → Friends (claims_of s.held qs) (claims_of t.held (plans ts))
    → EachDo (ReadsOff (claims_of s.held qs)) (tasks_of t.status ts)
reads-apart s t ts qs friends =
    dos-of (λ q. claims_of t.held (plans ts) q.resource q.mode ≡ true) (ReadsOff (claims_of s.held qs))
    (λ st each. reads-off (claims_of t.held (plans ts)) (claims_of s.held qs) (friends-flip _ _ friends) st each) t.status ts (claims-asked t.held (plans ts))

pub writes-claimed : (s : Session) (ss : List Bound) → EachDo (WritesUnder (claims_of s.held (plans ss))) (tasks_of s.status ss)
writes-claimed s ss = dos-of (λ q. claims_of s.held (plans ss) q.resource q.mode ≡ true) (WritesUnder (claims_of s.held (plans ss)))
    (λ st each. writes-under (claims_of s.held (plans ss)) st each) s.status ss (claims-asked s.held (plans ss))

-- the one's step, as it goes over these rows
abbrev pub alone : Session → Rows' → List Bound → Stop
alone s rows ss = solo s rows (tasks_of s.status ss)

-- the other's step ends the same before the one's and after it
ends-same : (w : World) (i j : ℕ) (s t : Session) (ss ts : List Bound) → Apart w i j s t (plans ss) (plans ts)
    → SameStop (claims_of s.held (plans ss)) (alone t (alone s w.rows ss).rows ts) (alone t w.rows ts)
ends-same w i j s t ss ts a =
    solo-same (claims_of s.held (plans ss)) t _ _ (tasks_of t.status ts) (reads-apart s t ts (plans ss) a.friends)
    (solo-within (claims_of s.held (plans ss)) s w.rows (tasks_of s.status ss) (writes-claimed s ss) a.one_under)

rows-same : (w : World) (i j : ℕ) (s t : Session) (ss ts : List Bound) → Apart w i j s t (plans ss) (plans ts)
    → (alone t (alone s w.rows ss).rows ts).rows ≡ (alone s (alone t w.rows ts).rows ss).rows
rows-same w i j s t ss ts a = same_map _ _ (λ p. at p (known (may_write (claims_of s.held (plans ss)) p)))
  where
    -- where the one may not write, both orders leave what the other leaves alone
    off-one : (p : RowPlace) → may_write (claims_of s.held (plans ss)) p ≡ false
        → get (alone t (alone s w.rows ss).rows ts).rows p ≡ get (alone s (alone t w.rows ts).rows ss).rows p
    off-one p off = (ends-same w i j s t ss ts a).rows.each p off
        ∙ sym ((solo-within (claims_of s.held (plans ss)) s (alone t w.rows ts).rows (tasks_of s.status ss) (writes-claimed s ss) a.one_under).each p off)

    off-other : (p : RowPlace) → may_write (claims_of t.held (plans ts)) p ≡ false
        → get (alone t (alone s w.rows ss).rows ts).rows p ≡ get (alone s (alone t w.rows ts).rows ss).rows p
    off-other p off = (solo-within (claims_of t.held (plans ts)) t (alone s w.rows ss).rows (tasks_of t.status ts) (writes-claimed t ts) a.other_under).each p off
        ∙ sym ((ends-same w j i t s ts ss (apart-flip w i j s t (plans ss) (plans ts) a)).rows.each p off)

    at : (p : RowPlace) → (may_write (claims_of s.held (plans ss)) p ≡ true) ⊎ (may_write (claims_of s.held (plans ss)) p ≡ false)
        → get (alone t (alone s w.rows ss).rows ts).rows p ≡ get (alone s (alone t w.rows ts).rows ss).rows p
    at p (inl one) = ⊎_elim (λ other. absurd (not_both_write (claims_of s.held (plans ss)) (claims_of t.held (plans ts)) a.friends p one other))
        (off-other p) (known (may_write (claims_of t.held (plans ts)) p))
    at p (inr off) = off-one p off

-- both steps, in either order, leave one world
pub orders-meet : (w : World) (i j : ℕ) (s t : Session) (ss ts : List Bound) → Apart w i j s t (plans ss) (plans ts)
    → after (after w i (alone s w.rows ss)) j (alone t (alone s w.rows ss).rows ts) ≡ after (after w j (alone t w.rows ts)) i
    (alone s (alone t w.rows ts).rows ss)
orders-meet w i j s t ss ts a =
    let r : (alone t (alone s w.rows ss).rows ts).rows ≡ (alone s (alone t w.rows ts).rows ss).rows = rows-same w i j s t ss ts a in
    let e : (alone t (alone s w.rows ss).rows ts).session ≡ (alone t w.rows ts).session = (ends-same w i j s t ss ts a).session in
    let f : (alone s (alone t w.rows ts).rows ss).session ≡ (alone s w.rows ss).session =
    (ends-same w j i t s ts ss (apart-flip w i j s t (plans ss) (plans ts) a)).session in
    let ses : set (set w.sessions i (alone s w.rows ss).session) j (alone t (alone s w.rows ss).rows ts).session
    ≡ set (set w.sessions j (alone t w.rows ts).session) i (alone s (alone t w.rows ts).rows ss).session =
    ap (set (set w.sessions i (alone s w.rows ss).session) j) e
    ∙ set_comm w.sessions i j (alone s w.rows ss).session (alone t w.rows ts).session a.differ
    ∙ ap (set (set w.sessions j (alone t w.rows ts).session) i) (sym f) in
    λ i. record { rows = r i; sessions = ses i; waits = w.waits }

-- ---- steps of a file

-- the session as the step finds it
abbrev pub sent : World → ℕ → ℕ → Session
sent w i k = note (session_at w i) (Sent k)

-- a free session's step is sent and goes alone
pub send-free : (steps : List Step) (w : World) (k : ℕ) (i : ℕ) (ss : List Bound) → get_or steps k no_step ≡ record { session = i; statements = ss }
    → Free w i (session_at w i).held (plans ss)
    → send steps w k ≡ after w i (alone (sent w i k) w.rows ss)
send-free steps w k i ss is free =
    let P : Step → World = λ st. let x : World = elim (waits_now w.waits st.session) [
      | true ↦ Rattle.machine_model.specs.World.noted w st.session
          (NotSent k)
      | false ↦ settle (goes w st.session (note (session_at w st.session) (Sent k)) (tasks_of (session_at w st.session).status st.statements))
    ] in x in
    let Q : Bool → World = λ b. let x : World = elim b [
      | true ↦ Rattle.machine_model.specs.World.noted w i (NotSent k)
      | false ↦ settle
          (goes w i (sent w i k) (tasks_of (sent w i k).status ss))
    ] in x in
    ap P is ∙ ap Q free.idle ∙ goes-alone w i (sent w i k) ss free

-- the second of two steps that do not meet
pub send-second : (steps : List Step) (w : World) (i j : ℕ) (s t : Session) (ss ts : List Bound) (l : ℕ)
    → get_or steps l no_step ≡ record { session = j; statements = ts } → Apart w i j s t (plans ss) (plans ts) → t ≡ sent w j l
    → send steps (after w i (alone s w.rows ss)) l ≡ after (after w i (alone s w.rows ss)) j (alone t (alone s w.rows ss).rows ts)
send-second steps w i j s t ss ts l is a e =
    let v : World = after w i (alone s w.rows ss) in
    let there : session_at v j ≡ session_at w j = look-other w i j (alone s w.rows ss) (λ x. a.differ (sym x)) in
    let same : sent v j l ≡ t = ap (λ x. note x (Sent l)) there ∙ sym e in
    let held : t.held ≡ (session_at v j).held = ap (λ (x : Session). x.held) e ∙ sym (ap (λ (x : Session). x.held) there) in
    send-free steps v l j ts is (subst (λ h. Free v j h (plans ts)) held (still-free w i j s t ss (plans ts) a)) ∙ ap (λ x. after v j (alone x v.rows ts)) same

-- two steps that do not meet, sent in either order, leave one world
pub sends-commute : (steps : List Step) (w : World) (k l : ℕ) (i j : ℕ) (ss ts : List Bound)
    → get_or steps k no_step ≡ record { session = i; statements = ss } → get_or steps l no_step ≡ record { session = j; statements = ts }
    → Apart w i j (session_at w i) (session_at w j) (plans ss) (plans ts)
    → send steps (send steps w k) l ≡ send steps (send steps w l) k
sends-commute steps w k l i j ss ts is_k is_l a =
    let s : Session = sent w i k in
    let t : Session = sent w j l in
    let b : Apart w i j s t (plans ss) (plans ts) = record {
      differ = a.differ;
      one = a.one;
      other = a.other;
      friends = a.friends;
      one_under = a.one_under;
      other_under = a.other_under;
    } in
    let one : send steps w k ≡ after w i (alone s w.rows ss) = send-free steps w k i ss is_k a.one in
    let other : send steps w l ≡ after w j (alone t w.rows ts) = send-free steps w l j ts is_l a.other in
    ap (λ v. send steps v l) one ∙ send-second steps w i j s t ss ts l is_l b refl ∙ orders-meet w i j s t ss ts b
    ∙ sym (ap (λ v. send steps v k) other ∙ send-second steps w j i t s ts ss k is_k (apart-flip w i j s t (plans ss) (plans ts) b) refl)
