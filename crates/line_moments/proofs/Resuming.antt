-- Each moment is of the step that its session was sent last, and a session goes on behind a moment that ended with its wait.
use Rattle.std.proofs.Common.{◌≡◌, ◌≢◌, refl, sym, ap, ◌∙◌, subst, ℕ, suc, ◌<◌, Bool, true, false, cond, not, ◌==◌, List, [], ◌∷◌, ◌++◌, length, get_or}
use Rattle.std.proofs.Common.{Option, Some, None, ◌⊎◌, inl, inr, ⊎_elim, eqb-true, eq-eqb}
use Rattle.lock_queues.specs.declared.wait.Wait.{Wait}
use Rattle.lock_queues.specs.Locks.{Spot, next_grant, waits_now}
use Rattle.lock_queues.specs.Reasons.{Want, Among}
use Rattle.lock_queues.specs.Sound.{EachWait, Distinct}
use Rattle.std.proofs.lemmas.Bool.{or_left, or_right}
use Rattle.lock_queues.proofs.Edges.{among-left, among-right}
use Rattle.bound_specs.specs.Spec.{Step, no_step}
use Rattle.events.specs.declared.event.Event.TheVariants.{Sent, Resumed}
use Rattle.machine_model.specs.Laws.{IsOf}
use Rattle.machine_model.specs.Session.{Session, note, tasks_of}
use Rattle.machine_model.specs.Go.{go}
use Rattle.machine_model.specs.World.{World, session_at, look_of, scene_of, send_all}
use Rattle.machine_model.specs.Sound.{Sound}
use Rattle.machine_model.specs.Start.{IsIdle}
use Rattle.machine_model.proofs.Basics.{known, cases-eq}
use Rattle.machine_model.proofs.Counts.{bound-fits}
use Rattle.machine_model.proofs.Owned.{start-silent}
use Rattle.machine_model.proofs.Settles.{next-grant, session-there, session-other, entering-granted}
use Rattle.machine_model.proofs.Starts.{OnStarted, start-idle, start-sound}
use Rattle.line_moments.specs.Laws.{StepsAreTold, WaitersGoOn}
use Rattle.line_moments.specs.declared.moment.Ending.{Ending}
use Rattle.line_moments.specs.declared.moment.Ending.TheVariants.{Awaits}
use Rattle.line_moments.specs.Moments.{Cause, Sends, GoesOn, Skips, Going, behind, behind_by, line_goings, Leads, IsTrue, moment_of}
use Rattle.line_moments.specs.Moments.{session_by, last_sent, step_by, sent_by, sent_to, step_after, ended_last, waits_but, holding, without}
use Rattle.line_moments.proofs.Behind.{moments-true}
use Rattle.line_moments.proofs.Leading.{moments-lead}
use Rattle.line_moments.proofs.Steps.{last-append, last-push, go-last, skipped-last}
use Rattle.line_moments.proofs.Waiting.{line-each, moments-wait}

-- ---- the goings before one of them

leads-front : (steps : List Step) (u v : World) (gs hs : List Going) (g : Going) → Leads steps u (gs ++ g ∷ hs) v → Leads steps u gs g.world
leads-front steps u v [] hs g a = sym a.0
leads-front steps u v (f ∷ gs) hs g a = (a.0, a.1, leads-front steps (behind_by steps u f.cause) v gs hs g a.2)

-- what stands there is due
leads-due : (steps : List Step) (u v : World) (gs hs : List Going) (x : World) (spot : Spot)
    → Leads steps u (gs ++ record { world = x; cause = GoesOn spot } ∷ hs) v → next_grant (length x.sessions) (look_of x) x.waits ≡ Some spot
leads-due steps u v [] hs x spot a = subst (λ (y : World). next_grant (length y.sessions) (look_of y) y.waits ≡ Some spot) (sym a.0) a.1
leads-due steps u v (f ∷ gs) hs x spot a = leads-due steps (behind_by steps u f.cause) v gs hs x spot a.2

-- ---- the step that was sent last

-- for each session behind a going
abbrev LastIs : List Step → Going → Type 0
LastIs steps g = (c : ℕ) → last_sent None (session_at (behind steps g) c).transcript
    ≡ sent_by steps c (last_sent None (session_at g.world c).transcript) g.cause

off : (i c : ℕ) → c ≢ i → (i == c) ≡ false
off i c ne = ⊎_elim (λ h. absurd (ne (sym (eqb-true i c h)))) (λ h. h) (known (i == c))

line-last : (steps : List Step) (w : World) (ks : List ℕ) → Sound w → ((k : ℕ) → (get_or steps k no_step).session < length w.sessions) → (g : Going)
    → Among g (line_goings steps w ks) → LastIs steps g
line-last steps = line-each steps (LastIs steps)
    (λ w k sound lt is c.
    let i = (get_or steps k no_step).session in
    let ts = tasks_of (session_at w (get_or steps k no_step).session).status (get_or steps k no_step).statements in
    let s = note (session_at w i) (Sent k) in
    let r = go (scene_of w) i s w.rows ts in
    ⊎_elim
    (λ e. ap (λ (x : Session). last_sent None x.transcript) (ap (session_at (behind_by steps w (Sends k))) e ∙ session-there w i r lt)
    ∙ go-last (scene_of w) i s w.rows ts ∙ last-append None (session_at w i).transcript (Sent k ∷ [])
    ∙ sym (ap (λ b. cond b (Some k) (last_sent None (session_at w c).transcript)) (eq-eqb i c (sym e))))
    (λ ne. ap (λ (x : Session). last_sent None x.transcript) (session-other w i c r ne)
    ∙ sym (ap (λ b. cond b (Some k) (last_sent None (session_at w c).transcript)) (off i c ne)))
    (cases-eq c i))
    (λ w spot st h c.
    let i = spot.wait.session in
    let u = without w spot in
    let s = note (holding w spot) Resumed in
    let r = go (scene_of u) i s w.rows (session_at w i).rest in
    ⊎_elim
    (λ e. ap (λ (x : Session). last_sent None x.transcript)
    (ap (session_at (behind_by steps w (GoesOn spot))) e ∙ session-there u i r (entering-granted w spot st h).known)
    ∙ go-last (scene_of u) i s w.rows (session_at w i).rest ∙ last-push (session_at w i).transcript Resumed refl
    ∙ sym (ap (λ d. last_sent None (session_at w d).transcript) e))
    (λ ne. ap (λ (x : Session). last_sent None x.transcript) (session-other u i c r ne))
    (cases-eq c i))
    (λ w k sound lt is c. skipped-last steps w k lt c)

chain-last : (steps : List Step) (c : ℕ) (u v : World) (gs : List Going) → Leads steps u gs v → ((g : Going) → Among g gs → LastIs steps g)
    → last_sent None (session_at v c).transcript ≡ sent_to steps c (last_sent None (session_at u c).transcript) gs
chain-last steps c u v [] a all = ap (λ (x : World). last_sent None (session_at x c).transcript) (sym a)
chain-last steps c u v (g ∷ gs) a all =
    let here : last_sent None (session_at (behind_by steps u g.cause) c).transcript
    ≡ sent_by steps c (last_sent None (session_at u c).transcript) g.cause =
    subst (λ (x : World). last_sent None (session_at (behind_by steps x g.cause) c).transcript
    ≡ sent_by steps c (last_sent None (session_at x c).transcript) g.cause) a.0 (all g (inl refl) c) in
    chain-last steps c (behind_by steps u g.cause) v gs a.2 (λ f m. all f (inr m)) ∙ ap (λ o. sent_to steps c o gs) here

pub steps-told : StepsAreTold
steps-told steps w ks sound fit before g after is = at g.cause refl
  where
    all : Leads steps w (before ++ g ∷ after) (send_all steps w ks)
    all = subst (λ gs. Leads steps w gs (send_all steps w ks)) is (moments-lead steps w ks sound fit).0

    last : (f : Going) → Among f before → LastIs steps f
    last f m = line-last steps w ks sound fit f (subst (Among f) (sym is) (among-left f before (g ∷ after) m))

    at : (c : Cause) → g.cause ≡ c → step_by g.world c ≡ step_after steps w before c
    at (Sends k) e = refl
    at (GoesOn spot) e = chain-last steps spot.wait.session w g.world before (leads-front steps w (send_all steps w ks) before after g all) last
    at (Skips k) e = refl

-- ---- how the last moment ended

-- another session's wait stays
stays : (i : ℕ) (v : Wait) (us : List Wait) → v.session ≢ i → Among v us → Among v (waits_but i us)
stays i v [] ne m = absurd m
stays i v (u ∷ us) ne m = at (u.session == i) refl m (λ k. stays i v us ne k)
  where
    at : (b : Bool) → (u.session == i) ≡ b → Among v (u ∷ us) → (Among v us → Among v (waits_but i us))
        → Among v (cond (not b) (u ∷ waits_but i us) (waits_but i us))
    at true e (inl is) rec = absurd (ne (ap (λ (x : Wait). x.session) is ∙ eqb-true u.session i e))
    at true e (inr k) rec = rec k
    at false e (inl is) rec = inl is
    at false e (inr k) rec = inr (rec k)

-- and no other one comes
was-there : (i : ℕ) (v : Wait) (us : List Wait) → Among v (waits_but i us) → Among v us
was-there i v [] m = absurd m
was-there i v (u ∷ us) m = at (u.session == i) m (λ k. was-there i v us k)
  where
    at : (b : Bool) → Among v (cond (not b) (u ∷ waits_but i us) (waits_but i us)) → (Among v (waits_but i us) → Among v us) → Among v (u ∷ us)
    at true m rec = inr (rec m)
    at false (inl is) rec = inl is
    at false (inr k) rec = inr (rec k)

-- a session has one wait
not-twice : (u v : Wait) (us : List Wait) → EachWait (λ x. x.session ≢ u.session) us → Among v us → v.session ≡ u.session → ⊥
not-twice u v [] each m e = m
not-twice u v (x ∷ us) each (inl is) e = each.0 (sym (ap (λ (y : Wait). y.session) is) ∙ e)
not-twice u v (x ∷ us) each (inr m) e = not-twice u v us each.1 m e

one-wait : (u v : Wait) (us : List Wait) → Distinct us → Among u us → Among v us → u.session ≡ v.session → u ≡ v
one-wait u v [] d m n e = absurd m
one-wait u v (x ∷ us) d (inl p) (inl q) e = p ∙ sym q
one-wait u v (x ∷ us) d (inl p) (inr n) e = absurd (not-twice x v us d.0 n (sym e ∙ ap (λ (y : Wait). y.session) p))
one-wait u v (x ∷ us) d (inr m) (inl q) e = absurd (not-twice x u us d.0 m (e ∙ ap (λ (y : Wait). y.session) q))
one-wait u v (x ∷ us) d (inr m) (inr n) e = one-wait u v us d.1 m n e

among-waits : (v : Wait) (us : List Wait) → Among v us → waits_now us v.session ≡ true
among-waits v [] m = absurd m
among-waits v (u ∷ us) (inl is) = or_left _ _ (eq-eqb u.session v.session (sym (ap (λ (y : Wait). y.session) is)))
among-waits v (u ∷ us) (inr m) = or_right (u.session == v.session) _ (among-waits v us m)

-- the session's last moment tells of the wait
abbrev TellsOf : Ending → Wait → Type 0
TellsOf e v = (want : Want) × (e ≡ Awaits want) × (want.resource ≡ v.resource) × (want.asked ≡ v.mode)

-- either the session has had no moment, and its wait is one that it had; or its last moment tells of its wait
abbrev EndsSo : World → ℕ → World → Option Ending → Type 0
EndsSo w c x o =
    ((o ≡ None) × ((v : Wait) → Among v x.waits → v.session ≡ c → Among v w.waits))
    ⊎ ((e : Ending) × (o ≡ Some e) × ((v : Wait) → Among v x.waits → v.session ≡ c → TellsOf e v))

-- a going, which is true and tells of its session's wait
abbrev Ends : List Step → Going → Type 0
Ends steps g = IsTrue steps g × ((v : Wait) → Among v (behind steps g).waits → v.session ≡ session_by steps g.cause → TellsOf (moment_of steps g).ending v)

one-ends : (steps : List Step) (w : World) (c : ℕ) (o : Option Ending) (g : Going) → Ends steps g → EndsSo w c g.world o
    → EndsSo w c (behind steps g) (cond (session_by steps g.cause == c) (Some (moment_of steps g).ending) o)
one-ends steps w c o g ends so = ⊎_elim own other (cases-eq c (session_by steps g.cause))
  where
    own : c ≡ session_by steps g.cause → EndsSo w c (behind steps g) (cond (session_by steps g.cause == c) (Some (moment_of steps g).ending) o)
    own e =
        inr (
          (moment_of steps g).ending,
          ap (λ b. cond b (Some (moment_of steps g).ending) o) (eq-eqb (session_by steps g.cause) c (sym e)),
          (λ v m h. ends.1 v m (h ∙ e)),
        )

    other : c ≢ session_by steps g.cause → EndsSo w c (behind steps g) (cond (session_by steps g.cause == c) (Some (moment_of steps g).ending) o)
    other ne =
        let i = session_by steps g.cause in
        let old : (v : Wait) → Among v (behind steps g).waits → v.session ≡ c → Among v g.world.waits =
        λ v m h. was-there i v g.world.waits (subst (Among v) ends.0.waits (stays i v (behind steps g).waits (λ k. ne (sym h ∙ k)) m)) in
        subst (EndsSo w c (behind steps g)) (sym (ap (λ b. cond b (Some (moment_of steps g).ending) o) (off i c ne)))
        (⊎_elim (λ x. inl (x.0, (λ v m h. x.1 v (old v m h) h))) (λ x. inr (x.0, x.1, (λ v m h. x.2 v (old v m h) h))) so)

chain-ends : (steps : List Step) (w : World) (c : ℕ) (o : Option Ending) (u v : World) (gs : List Going) → Leads steps u gs v
    → ((g : Going) → Among g gs → Ends steps g) → EndsSo w c u o → EndsSo w c v (ended_last steps c o gs)
chain-ends steps w c o u v [] a all so = subst (λ x. EndsSo w c x o) a so
chain-ends steps w c o u v (g ∷ gs) a all so =
    chain-ends steps w c (cond (session_by steps g.cause == c) (Some (moment_of steps g).ending) o) (behind_by steps u g.cause) v gs a.2
    (λ f m. all f (inr m))
    (subst (λ x. EndsSo w c (behind_by steps x g.cause) (cond (session_by steps g.cause == c) (Some (moment_of steps g).ending) o)) a.0
    (one-ends steps w c o g (all g (inl refl)) (subst (λ x. EndsSo w c x o) (sym a.0) so)))

-- each moment of a line tells of its session's wait
line-ends : (steps : List Step) (w : World) (ks : List ℕ) → Sound w → ((k : ℕ) → IsOf steps w k) → (g : Going) → Among g (line_goings steps w ks)
    → Ends steps g
line-ends steps w ks sound fit g m = (is_true, tells)
  where
    is_true : IsTrue steps g
    is_true = moments-true steps w ks sound fit g m

    tells : (v : Wait) → Among v (behind steps g).waits → v.session ≡ session_by steps g.cause → TellsOf (moment_of steps g).ending v
    tells v n h =
        let told = moments-wait steps w ks sound fit g m in
        let x = told.0.0 (subst (λ i. waits_now (behind steps g).waits i ≡ true) h (among-waits v (behind steps g).waits n)) in
        let exact = told.1 x.0 x.1 in
        let same : exact.spot.wait ≡ v =
        one-wait exact.spot.wait v (behind steps g).waits is_true.steady.distinct
        (subst (Among exact.spot.wait) exact.there (among-right exact.spot.wait exact.spot.before (exact.spot.wait ∷ exact.spot.after) (inl refl))) n
        (exact.own ∙ sym h) in
        (x.0, x.1, exact.resource ∙ ap (λ (y : Wait). y.resource) same, exact.asked ∙ ap (λ (y : Wait). y.mode) same)

pub waiters-go-on : WaitersGoOn
waiters-go-on spec w ks bound e before v spot after is = (
  steps-told spec.steps w ks sound fit before this after is
      ∙ ap (λ t. sent_to spec.steps i (last_sent None t) before) (start-silent spec w e i),
  ⊎_elim
      (λ x. absurd (subst (Among spot.wait) idle.idle (x.1 spot.wait waits refl)))
      (λ x. let p = x.2 spot.wait waits refl in (p.0, x.1 ∙ ap Some p.1, p.2, p.3)) so,
)
  where
    i : ℕ
    i = spot.wait.session

    this : Going
    this = record { world = v; cause = GoesOn spot }

    idle : IsIdle (suc spec.sessions) w
    idle = subst (λ s. OnStarted s (IsIdle (suc spec.sessions))) e (start-idle spec bound.session_setups)

    sound : Sound w
    sound = start-sound spec w bound.session_setups e

    fit : (k : ℕ) → IsOf spec.steps w k
    fit = bound-fits spec w bound e

    all : Leads spec.steps w (before ++ this ∷ after) (send_all spec.steps w ks)
    all = subst (λ gs. Leads spec.steps w gs (send_all spec.steps w ks)) is (moments-lead spec.steps w ks sound fit).0

    waits : Among spot.wait v.waits
    waits =
        let g = next-grant (length v.sessions) (look_of v) v.waits spot (leads-due spec.steps w (send_all spec.steps w ks) before after v spot all) in
        subst (Among spot.wait) (sym g.splits) (among-right spot.wait spot.before (spot.wait ∷ spot.after) (inl refl))

    each : (f : Going) → Among f before → Ends spec.steps f
    each f m = line-ends spec.steps w ks sound fit f (subst (Among f) (sym is) (among-left f before (this ∷ after) m))

    so : EndsSo w spot.wait.session v (ended_last spec.steps spot.wait.session None before)
    so =
        chain-ends spec.steps w spot.wait.session None w v before
        (leads-front spec.steps w (send_all spec.steps w ks) before after this all) each (inl (refl, (λ u m h. m)))
