-- The footprint of a session whose requests are had.
use Rattle.std.proofs.Common.{◌≡◌, refl, sym, ap, ◌∙◌, subst, ℕ, Bool, true, false, true≢false, List, [], ◌∷◌, ◌++◌}
use Rattle.finite_maps.specs.Map.{get}
use Rattle.lock_modes.specs.RowPlace.{RowPlace}
use Rattle.lock_modes.specs.Rows.{Rows'}
use Rattle.lock_queues.specs.Locks.{may_have, closes_ring}
use Rattle.row_tables.specs.Overlay.{Overlay, lay}
use Rattle.bound_statements.specs.Levels.{asked as asked_by}
use Rattle.bound_statements.specs.Plan.{Request, request, plan}
use Rattle.bound_statements.specs.declared.statement.Bound.{Bound}
use Rattle.statement_evaluation.specs.Effect.{Effect, Gives, Faults, effect}
use Rattle.events.specs.declared.event.Fault.TheVariants.{Aborted}
use Rattle.machine_model.specs.declared.status.Status.{Status}
use Rattle.machine_model.specs.declared.status.Status.TheVariants.{Outside, InBlock, Broken}
use Rattle.machine_model.specs.Session.{Task, Ask, Do, Session, Held, Kind, Begins, Commits, RollsBack, Works, kind, Performed, Goes, Fails, perform}
use Rattle.machine_model.specs.Session.{perform_by, worked, tasks_of}
use Rattle.machine_model.specs.Go.{Scene, Run, replied, taking, go, solo, stopped, failed, finished_by, is_broken, held_up, look_with, waiting_with}
use Rattle.machine_model.specs.declared.reply.Reply.TheVariants.{Had, Waits, Refused}
use Rattle.machine_model.specs.World.{World, session_at, scene_of}
use Rattle.machine_model.specs.Claims.{claims_of}
use Rattle.machine_model.specs.Sound.{Sound, UnderLocks, HoldsAll, Backed}
use Rattle.machine_model.specs.Footprint.{AllHad, EachDo, ReadsBut, AgreeBut, SameChanges}
use Rattle.machine_model.proofs.Solo.{OnGoes}
use Rattle.machine_model.proofs.Footprint.{SameWay, both_go, both_fail, AgreeOff-laid, perform_by-same, solo-same-but, changes-none, changes-then}
use Rattle.machine_model.proofs.Footprint.{agree-changed}
use Rattle.machine_model.proofs.Stronger.{stronger-taking, under-stronger, holds-stronger, covers-taking, holds-plan}
use Rattle.machine_model.proofs.Kept.{perform_by-under}
use Rattle.machine_model.proofs.Settles.{backed-tasks}
use Rattle.rank_facts.specs.Footprint.{ChangesUnder, WritesUnder, EndsUnder, Leads, Footprint, FootprintUntil}

pub go-had : (e : Scene) (i : ℕ) (s : Session) (rows : Rows') (ts : List Task) → AllHad e i s rows ts → go e i s rows ts ≡ stopped e (solo s rows ts)
go-had e i s rows [] h = refl
go-had e i s rows (Ask n r m ∷ ts) h = asked (is_broken s.status) (may_have e.count e.look e.waits i (get s.held r) r m) n
    (closes_ring e.count (look_with e i s.held) (waiting_with e i r m) i) refl h (λ k. go-had e i (taking s r m) rows ts k)
  where
    asked : (b h n c : Bool) → may_have e.count e.look e.waits i (get s.held r) r m ≡ h
        → (let T : Type 0 = elim b [
          | true ↦ Unit {0}
          | false ↦ (may_have e.count e.look e.waits i (get s.held r) r m ≡ true)
              × AllHad e i (taking s r m) rows ts
        ] in T)
        → (AllHad e i (taking s r m) rows ts → go e i (taking s r m) rows ts ≡ stopped e (solo (taking s r m) rows ts))
        → (let x : Run = elim b [
          | true ↦ stopped e (failed s rows Aborted)
          | false ↦ elim
              (replied h n c) [ Had ↦ go e i (taking s r m) rows ts | Waits ↦ held_up e i s rows r m ts | Refused f ↦ stopped e (failed s rows f) ]
        ] in x)
        ≡ stopped e (elim b [ true ↦ failed s rows Aborted | false ↦ solo (taking s r m) rows ts ])
    asked true h n c is k rec = refl
    asked false true n c is k rec = rec k.1
    asked false false n c is k rec = absurd (true≢false (sym k.0 ∙ is))
go-had e i s rows (Do st ∷ ts) h = done (perform s rows st) h (λ s2 rows2 k. go-had e i s2 rows2 ts k)
  where
    done : (d : Performed) → (let T : Type 0 = elim d [ Goes s2 rows2 ↦ AllHad e i s2 rows2 ts | Fails f ↦ Unit {0} ] in T)
        → ((s2 : Session) (rows2 : Rows') → AllHad e i s2 rows2 ts → go e i s2 rows2 ts ≡ stopped e (solo s2 rows2 ts))
        → (let x : Run = elim d [ Goes s2 rows2 ↦ go e i s2 rows2 ts | Fails f ↦ stopped e (failed s rows f) ] in x)
        ≡ stopped e (elim d [ Goes s2 rows2 ↦ solo s2 rows2 ts | Fails f ↦ failed s rows f ])
    done (Goes s2 rows2) k rec = rec s2 rows2 k
    done (Fails f) k rec = refl

-- ---- what changes

changes-laid : (h : Held) (o : Overlay) (rows : Rows') → UnderLocks o h → ChangesUnder h rows (lay o rows)
changes-laid h o rows under p off = (AgreeOff-laid (claims_of h []) o rows (record { each = under })).each p off

changes-by : (status : Status) (k : Kind) (s : Session) (rows : Rows') (st : Bound) → UnderLocks s.overlay s.held
    → OnGoes (perform_by status k s rows st) (λ u after. ChangesUnder s.held rows after)
changes-by Outside (Begins level) s rows st under = λ p off. refl
changes-by (InBlock of) (Begins level) s rows st under = λ p off. refl
changes-by Broken (Begins level) s rows st under = tt
changes-by Outside Commits s rows st under = changes-laid s.held s.overlay rows under
changes-by (InBlock of) Commits s rows st under = changes-laid s.held s.overlay rows under
changes-by Broken Commits s rows st under = λ p off. refl
changes-by Outside RollsBack s rows st under = λ p off. refl
changes-by (InBlock of) RollsBack s rows st under = λ p off. refl
changes-by Broken RollsBack s rows st under = λ p off. refl
changes-by Outside Works s rows st under = worked (effect st (lay s.overlay rows))
  where
    worked : (e : Effect) → OnGoes (Rattle.machine_model.specs.Session.worked s rows e) (λ u after. ChangesUnder s.held rows after)
    worked (Gives events writes) = λ p off. refl
    worked (Faults f) = tt
changes-by (InBlock of) Works s rows st under = worked (effect st (lay s.overlay rows))
  where
    worked : (e : Effect) → OnGoes (Rattle.machine_model.specs.Session.worked s rows e) (λ u after. ChangesUnder s.held rows after)
    worked (Gives events writes) = λ p off. refl
    worked (Faults f) = tt
changes-by Broken Works s rows st under = tt

ends-under : (status : Status) (s : Session) (rows : Rows') → UnderLocks s.overlay s.held → ChangesUnder s.held rows (finished_by status s rows).rows
ends-under Outside s rows under = changes-laid s.held s.overlay rows under
ends-under (InBlock of) s rows under = λ p off. refl
ends-under Broken s rows under = λ p off. refl

writes-under : (last : Session → Rows' → Type 0) → ((s : Session) (rows : Rows') → UnderLocks s.overlay s.held → last s rows)
    → (s : Session) (rows : Rows') (ts : List Task) (have : List Request) → UnderLocks s.overlay s.held → HoldsAll s.held have → Backed have ts
    → WritesUnder last s rows ts
writes-under last ends s rows [] have under holds backed = ends s rows under
writes-under last ends s rows (Ask n r m ∷ ts) have under holds backed =
    asked (is_broken s.status)
    (writes-under last ends (taking s r m) rows ts (request r m ∷ have) (under-stronger s.overlay s.held _ (stronger-taking s.held r m) under)
    (covers-taking s.held r m, holds-stronger s.held _ (stronger-taking s.held r m) have holds) backed)
  where
    asked : (b : Bool) → WritesUnder last (taking s r m) rows ts
        → (let T : Type 0 = elim b [ true ↦ ChangesUnder s.held rows (failed s rows Aborted).rows | false ↦ WritesUnder last (taking s r m) rows ts ] in T)
    asked true rec = λ p off. refl
    asked false rec = rec
writes-under last ends s rows (Do st ∷ ts) have under holds backed =
    done (perform s rows st) (changes-by s.status (kind st) s rows st under)
    (perform_by-under s.status (kind st) s rows st (holds-plan s.held have (asked_by st) holds backed.0) under)
    (λ u after h. writes-under last ends u after ts [] h tt backed.1)
  where
    done : (d : Performed) → OnGoes d (λ u after. ChangesUnder s.held rows after) → OnGoes d (λ u after. UnderLocks u.overlay u.held)
        → ((u : Session) (after : Rows') → UnderLocks u.overlay u.held → WritesUnder last u after ts)
        → (let T : Type 0 = elim d [
          | Goes u after ↦ ChangesUnder s.held rows after × WritesUnder last u after ts
          | Fails f ↦ ChangesUnder s.held rows
              (failed s rows f).rows
        ] in T)
    done (Goes u after) changes h rec = (changes, rec u after h)
    done (Fails f) changes h rec = λ p off. refl

pub footprint : (w : World) (i : ℕ) (ss : List Bound) → Sound w → AllHad (scene_of w) i (session_at w i) w.rows (tasks_of (session_at w i).status ss) → Footprint w i ss
footprint w i ss sound had =
    record {
      alone = go-had (scene_of w) i (session_at w i) w.rows (tasks_of (session_at w i).status ss) had;
      reads = λ hidden b reads agree. solo-same-but hidden (session_at w i) w.rows b (tasks_of (session_at w i).status ss) reads agree;
      writes = writes-under EndsUnder (λ s rows under. ends-under s.status s rows under) (session_at w i) w.rows (tasks_of (session_at w i).status ss) [] (sound.steady.under i) tt
          (backed-tasks (session_at w i).status ss);
    }

-- ---- up to a request that may not be had

backed-front : (have : List Request) (ts us : List Task) → Backed have (ts ++ us) → Backed have ts
backed-front have [] us b = tt
backed-front have (Ask n r m ∷ ts) us b = backed-front (request r m ∷ have) ts us b
backed-front have (Do st ∷ ts) us b = (b.0, backed-front [] ts us b.1)

same-goes : (a b : Rows') (x y : Performed) → SameWay a b x y → (u : Session) (c : Rows') → x ≡ Goes u c → (d : Rows') × ((y ≡ Goes u d) × SameChanges a c b d)
same-goes a b _ _ (both_go {s = s} {x = x} {y = y} changes) u c e =
    let es : s ≡ u = cc in
    let ex : x ≡ c = cc in
    (y, (ap (λ v. Goes v y) es, subst (λ z. SameChanges a z b y) ex changes))
same-goes a b _ _ both_fail u c e = cc

leads-same : (hidden : RowPlace → Bool) (s : Session) (a b : Rows') (ts : List Task) (t : Session) (c : Rows') → EachDo (ReadsBut hidden) ts
    → AgreeBut hidden a b → Leads s a ts t c
    → (d : Rows') × (Leads s b ts t d × SameChanges a c b d)
leads-same hidden s a b [] t c off h leads = (b, ((leads.0, refl), subst (λ z. SameChanges a z b b) leads.1 (changes-none a b)))
leads-same hidden s a b (Ask n r m ∷ ts) t c off h leads =
    let rest = leads-same hidden (taking s r m) a b ts t c off h leads.1 in
    (rest.0, ((leads.0, rest.1.0), rest.1.1))
leads-same hidden s a b (Do st ∷ ts) t c off h leads =
    let u : Session = leads.0 in
    let x : Rows' = leads.1.0 in
    let first = same-goes a b (perform s a st) (perform s b st) (perform_by-same hidden s.status (kind st) s a b st off.0 h) u x leads.1.1.0 in
    let rest = leads-same hidden u x first.0 ts t c off.1 (agree-changed hidden a x b first.0 h first.1.1) leads.1.1.1 in
    (rest.0, ((u, (first.0, (first.1.0, rest.1.0))), changes-then a x c b first.0 rest.0 first.1.1 rest.1.1))

go-until : (e : Scene) (i : ℕ) (s : Session) (rows : Rows') (ts us : List Task) (t : Session) (last : Rows') → AllHad e i s rows ts → Leads s rows ts t last
    → go e i s rows (ts ++ us) ≡ go e i t last us
go-until e i s rows [] us t last had leads = λ k. go e i (leads.0 k) (leads.1 k) us
go-until e i s rows (Ask n r m ∷ ts) us t last had leads =
    asked (is_broken s.status) (may_have e.count e.look e.waits i (get s.held r) r m) n (closes_ring e.count (look_with e i s.held) (waiting_with e i r m) i)
    leads.0 refl had
    (λ h. go-until e i (taking s r m) rows ts us t last h leads.1)
  where
    asked : (b h n c : Bool) → b ≡ false → may_have e.count e.look e.waits i (get s.held r) r m ≡ h
        → (let T : Type 0 = elim b [
          | true ↦ Unit {0}
          | false ↦ (may_have e.count e.look e.waits i (get s.held r) r m ≡ true)
              × AllHad e i (taking s r m) rows ts
        ] in T)
        → (AllHad e i (taking s r m) rows ts → go e i (taking s r m) rows (ts ++ us) ≡ go e i t last us)
        → (let x : Run = elim b [
          | true ↦ stopped e (failed s rows Aborted)
          | false ↦ elim (replied h n c) [
            | Had ↦ go e i (taking s r m) rows (ts ++ us)
            | Waits ↦ held_up e i s rows r m (ts ++ us)
            | Refused f ↦ stopped e (failed s rows f)
          ]
        ] in x) ≡ go e i t last us
    asked true h n c off is k rec = cc
    asked false true n c off is k rec = rec k.1
    asked false false n c off is k rec = absurd (true≢false (sym k.0 ∙ is))
go-until e i s rows (Do st ∷ ts) us t last had leads = done (λ h. go-until e i leads.0 leads.1.0 ts us t last h leads.1.1.1) (perform s rows st) leads.1.1.0 had
  where
    done : (AllHad e i leads.0 leads.1.0 ts → go e i leads.0 leads.1.0 (ts ++ us) ≡ go e i t last us) → (d : Performed) → d ≡ Goes leads.0 leads.1.0
        → (let T : Type 0 = elim d [ Goes s2 rows2 ↦ AllHad e i s2 rows2 ts | Fails f ↦ Unit {0} ] in T)
        → (let x : Run = elim d [ Goes s2 rows2 ↦ go e i s2 rows2 (ts ++ us) | Fails f ↦ stopped e (failed s rows f) ] in x) ≡ go e i t last us
    done rec d is k =
        let P : Performed → Type 0 = λ x. (let T : Type 0 = elim x [ Goes s2 rows2 ↦ AllHad e i s2 rows2 ts | Fails f ↦ Unit {0} ] in T) in
        let R : Performed → Run = λ x. (let r : Run = elim x [ Goes s2 rows2 ↦ go e i s2 rows2 (ts ++ us) | Fails f ↦ stopped e (failed s rows f) ] in r) in
        ap R is ∙ rec (subst P is k)

pub footprint-until : (w : World) (i : ℕ) (ss : List Bound) (ts us : List Task) (t : Session) (rows : Rows') → Sound w → tasks_of (session_at w i).status ss ≡ ts ++ us
    → AllHad (scene_of w) i (session_at w i) w.rows ts → Leads (session_at w i) w.rows ts t rows → FootprintUntil w i ts us t rows
footprint-until w i ss ts us t rows sound is had leads =
    record {
      alone = go-until (scene_of w) i (session_at w i) w.rows ts us t rows had leads;
      reads = λ hidden b reads agree. leads-same hidden (session_at w i) w.rows b ts t rows reads agree leads;
      writes = writes-under (λ s last. Unit {0}) (λ s last under. tt) (session_at w i) w.rows ts [] (sound.steady.under i) tt
          (backed-front [] ts us (subst (Backed []) is (backed-tasks (session_at w i).status ss)));
    }
