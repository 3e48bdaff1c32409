-- A session whose requests are all had goes as if it were alone.
use Rattle.std.proofs.Common.{◌≡◌, refl, sym, ap, ◌∙◌, subst, ℕ, zero, suc, Bool, true, false, cond, ◌&&◌, ◌||◌, ◌==◌, List, [], ◌∷◌, Option, Some, None}
use Rattle.std.proofs.Common.{is_some}
use Rattle.finite_maps.specs.Map.{same_key, same_key-true, get, insert, get-insert, empty, get-empty}
use Rattle.lock_modes.specs.Resource.{resource_order}
use Rattle.lock_modes.specs.Mode.{cover}
use Rattle.lock_modes.specs.Rows.{Rows'}
use Rattle.lock_queues.specs.Locks.{Look, fits, fits_with, wanted, all_below, may_have}
use Rattle.statement_evaluation.specs.Effect.{Effect, Gives, Faults}
use Rattle.machine_model.specs.Session.{Task, Ask, Do, Session, Held, Performed, Goes, Fails, Kind, Begins, Commits, RollsBack, Works, kind, perform}
use Rattle.machine_model.specs.Session.{perform_by, worked}
use Rattle.machine_model.specs.Go.{Scene, Run, Stop, replied, taking, go, solo, stopped, failed, finished_by, is_broken, held_up}
use Rattle.machine_model.specs.declared.reply.Reply.TheVariants.{Had, Waits, Refused}
use Rattle.lock_modes.specs.declared.mode.Mode.{Mode}
use Rattle.lock_modes.specs.declared.resource.Resource.{Resource}
use Rattle.machine_model.specs.Footprint.{EachAsk, HeldFits, IsFree}
use Rattle.events.specs.declared.event.Fault.TheVariants.{Aborted}
use Rattle.machine_model.specs.declared.status.Status.{Status}
use Rattle.machine_model.specs.declared.status.Status.TheVariants.{Outside, InBlock, Broken}
use Rattle.bound_statements.specs.declared.statement.Bound.{Bound}
use Rattle.machine_model.proofs.Basics.{both_true, and_true, or_true_right}
use Rattle.lock_modes.proofs.ModeLaws.{compatible-cover}

abbrev pub OnGoes : Performed → (Session → Rows' → Type 0) → Type 0
OnGoes (Goes s rows) P = P s rows
OnGoes (Fails f) P = Unit {0}

worked-held : (P : Held → Type 0) (s : Session) (rows : Rows') (e : Effect) → P s.held → OnGoes (worked s rows e) (λ s2 rows2. P s2.held)
worked-held P s rows (Gives events writes) p = p
worked-held P s rows (Faults f) p = tt

perform_by-held : (P : Held → Type 0) → P empty → (status : Status) (k : Kind) (s : Session) (rows : Rows') (st : Bound) → P s.held
    → OnGoes (perform_by status k s rows st) (λ s2 rows2. P s2.held)
perform_by-held P e Outside (Begins level) s rows st p = p
perform_by-held P e (InBlock of) (Begins level) s rows st p = p
perform_by-held P e Broken (Begins level) s rows st p = tt
perform_by-held P e Outside Commits s rows st p = e
perform_by-held P e (InBlock of) Commits s rows st p = e
perform_by-held P e Broken Commits s rows st p = e
perform_by-held P e Outside RollsBack s rows st p = e
perform_by-held P e (InBlock of) RollsBack s rows st p = e
perform_by-held P e Broken RollsBack s rows st p = e
perform_by-held P e Outside Works s rows st p = worked-held P s rows _ p
perform_by-held P e (InBlock of) Works s rows st p = worked-held P s rows _ p
perform_by-held P e Broken Works s rows st p = tt

-- a statement leaves what is held, or lets go of it all
pub perform-held : (P : Held → Type 0) → P empty → (s : Session) (rows : Rows') (st : Bound) → P s.held → OnGoes (perform s rows st) (λ s2 rows2. P s2.held)
perform-held P e s rows st p = perform_by-held P e s.status (kind st) s rows st p

-- ---- what is held after a step

-- the request keeps P of what is held
abbrev pub Keeps : (Held → Type 0) → Resource → Mode → Type 0
Keeps P r m = (h : Held) → P h → P (insert h r (wanted (get h r) m))

finished-held : (P : Held → Type 0) → P empty → (status : Status) (s : Session) (rows : Rows') → P s.held → P (finished_by status s rows).session.held
finished-held P e Outside s rows p = e
finished-held P e (InBlock of) s rows p = p
finished-held P e Broken s rows p = p

-- what holds of what is held, of nothing, and is kept by each request, holds at the end
pub solo-held : (P : Held → Type 0) → P empty → (s : Session) (rows : Rows') (ts : List Task) → EachAsk (Keeps P) ts → P s.held
    → P (solo s rows ts).session.held
solo-held P e s rows [] keeps p = finished-held P e s.status s rows p
solo-held P e s rows (Ask n r m ∷ ts) keeps p =
    elim (is_broken s.status) as (λ b. P (let x : Stop = elim b [ true ↦ failed s rows Aborted | false ↦ solo (taking s r m) rows ts ] in x.session.held)) [
      | true ↦ e
      | false ↦ solo-held P e (taking s r m) rows ts keeps.1 (keeps.0 s.held p)
    ]
solo-held P e s rows (Do st ∷ ts) keeps p = go_on (perform s rows st) (perform-held P e s rows st p) (λ s2 rows2 q. solo-held P e s2 rows2 ts keeps q)
  where
    go_on : (d : Performed) → OnGoes d (λ s2 rows2. P s2.held) → ((s2 : Session) (rows2 : Rows') → P s2.held → P (solo s2 rows2 ts).session.held)
        → P (let x : Stop = elim d [ Goes s2 rows2 ↦ solo s2 rows2 ts | Fails f ↦ failed s rows f ] in x.session.held)
    go_on (Goes s2 rows2) q rec = rec s2 rows2 q
    go_on (Fails f) q rec = e

-- ---- a mode that fits

pub fits_with-cover : (a b : Mode) (o : Option Mode) → fits_with (cover a b) o ≡ (fits_with a o && fits_with b o)
fits_with-cover a b None = refl
fits_with-cover a b (Some c) = compatible-cover a b c

pub all_below-true : (n : ℕ) (test : ℕ → Bool) → ((c : ℕ) → test c ≡ true) → all_below n test ≡ true
all_below-true zero test h = refl
all_below-true (suc n) test h = and_true (test n) _ (h n) (all_below-true n test h)

-- two tests of which both pass together
pub all_below-both : (n : ℕ) (f g h : ℕ → Bool) → ((c : ℕ) → f c ≡ true → g c ≡ true → h c ≡ true) → all_below n f ≡ true → all_below n g ≡ true → all_below n h
    ≡ true
all_below-both zero f g h join p q = refl
all_below-both (suc n) f g h join p q =
    let a = both_true (f n) _ p in
    let b = both_true (g n) _ q in
    and_true (h n) _ (join n a.0 b.0) (all_below-both n f g h join a.1 b.1)

or_joins : (b x y z : Bool) → (x ≡ true → y ≡ true → z ≡ true) → (b || x) ≡ true → (b || y) ≡ true → (b || z) ≡ true
or_joins true x y z f p q = refl
or_joins false x y z f p q = f p q

pub fits-cover : (n : ℕ) (look : Look) (i : ℕ) (r : Resource) (a b : Mode) → fits n look i r a ≡ true → fits n look i r b ≡ true → fits n look i r (cover a b)
    ≡ true
fits-cover n look i r a b p q = all_below-both n _ _ _ (λ c. or_joins (c == i) _ _ _ (λ x y. fits_with-cover a b (look c r) ∙ and_true _ _ x y)) p q

-- ---- all requests are had

wanted-fits : (e : Scene) (i : ℕ) (r : Resource) (o : Option Mode) (m : Mode) → ((h : Mode) → o ≡ Some h → fits e.count e.look i r h ≡ true)
    → fits e.count e.look i r m ≡ true → fits e.count e.look i r (wanted o m) ≡ true
wanted-fits e i r None m h f = f
wanted-fits e i r (Some held) m h f = fits-cover e.count e.look i r held m (h held refl) f

pub held-fits-empty : (e : Scene) (i : ℕ) → HeldFits e i empty
held-fits-empty e i = record { each = λ r m is. absurd (let x = sym (get-empty resource_order Mode r) ∙ is in cc) }

pub held-fits-taking : (e : Scene) (i : ℕ) (r : Resource) (m : Mode) → IsFree e i r m → Keeps (HeldFits e i) r m
held-fits-taking e i r m free h p = record { each = λ q n is. at q n (same_key resource_order q r) refl is }
  where
    at : (q : Resource) (n : Mode) (b : Bool) → same_key resource_order q r ≡ b → get (insert h r (wanted (get h r) m)) q ≡ Some n → fits e.count e.look i q n
        ≡ true
    at q n true same is =
        let w : Some (wanted (get h r) m) ≡ Some n = ap (λ b. cond b (Some (wanted (get h r) m)) (get h q)) (sym same) ∙ sym (get-insert h r _ q) ∙ is in
        let v : wanted (get h r) m ≡ n = cc in
        let k : r ≡ q = sym (same_key-true resource_order q r same) in
        subst (λ x. fits e.count e.look i q x ≡ true) v (subst (λ x. fits e.count e.look i x (wanted (get h r) m)
        ≡ true) k (wanted-fits e i r (get h r) m (p.each r) free.0))
    at q n false same is = p.each q n (ap (λ b. cond b (Some (wanted (get h r) m)) (get h q)) (sym same) ∙ sym (get-insert h r _ q) ∙ is)

had : (e : Scene) (i : ℕ) (s : Session) (r : Resource) (m : Mode) → IsFree e i r m → HeldFits e i s.held → may_have e.count e.look e.waits i (get s.held r) r m
    ≡ true
had e i s r m free p = and_true _ _ (wanted-fits e i r (get s.held r) m (p.each r) free.0) (or_true_right (is_some (get s.held r)) _ free.1)

-- where each request is free, the session goes as if alone
pub go-solo : (e : Scene) (i : ℕ) (s : Session) (rows : Rows') (ts : List Task) → EachAsk (IsFree e i) ts → HeldFits e i s.held → go e i s rows ts
    ≡ stopped e (solo s rows ts)
go-solo e i s rows [] free p = refl
go-solo e i s rows (Ask n r m ∷ ts) free p = asked (is_broken s.status) _ n _ (had e i s r m free.0 p)
    (go-solo e i (taking s r m) rows ts free.1 (held-fits-taking e i r m free.0 s.held p))
  where
    asked : (b h n c : Bool) → h ≡ true → go e i (taking s r m) rows ts ≡ stopped e (solo (taking s r m) rows ts)
        → (let x : Run = elim b [
          | true ↦ stopped e (failed s rows Aborted)
          | false ↦ elim (replied h n c)
              [ Had ↦ go e i (taking s r m) rows ts | Waits ↦ held_up e i s rows r m ts | Refused f ↦ stopped e (failed s rows f) ]
        ] in x)
        ≡ stopped e (elim b [ true ↦ failed s rows Aborted | false ↦ solo (taking s r m) rows ts ])
    asked true h n c is rec = refl
    asked false true n c is rec = rec
    asked false false n c is rec = cc
go-solo e i s rows (Do st ∷ ts) free p = done (perform s rows st) (perform-held (HeldFits e i) (held-fits-empty e i) s rows st p) (λ s2 rows2 q.
    go-solo e i s2 rows2 ts free q)
  where
    done : (d : Performed) → OnGoes d (λ s2 rows2. HeldFits e i s2.held)
        → ((s2 : Session) (rows2 : Rows') → HeldFits e i s2.held → go e i s2 rows2 ts ≡ stopped e (solo s2 rows2 ts))
        → (let x : Run = elim d [ Goes s2 rows2 ↦ go e i s2 rows2 ts | Fails f ↦ stopped e (failed s rows f) ] in x)
        ≡ stopped e (elim d [ Goes s2 rows2 ↦ solo s2 rows2 ts | Fails f ↦ failed s rows f ])
    done (Goes s2 rows2) q rec = rec s2 rows2 q
    done (Fails f) q rec = refl
