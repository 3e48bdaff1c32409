-- Every line is a serial run of its commits.
use Rattle.std.proofs.Common.{◌≡◌, refl, sym, ap, ◌∙◌, subst, ℕ, Bool, true, false, cond, List, [], ◌∷◌, ◌++◌, map, Some, ⊎_elim, append-nil}
use Rattle.finite_maps.specs.Map.{Map, get, empty, entries}
use Rattle.lock_modes.specs.RowPlace.{RowPlace}
use Rattle.lock_modes.specs.Rows.{Rows', Write}
use Rattle.lock_modes.specs.Mode.{compatible, AtLeast}
use Rattle.lock_queues.specs.Locks.{may_have, closes_ring}
use Rattle.row_tables.specs.Overlay.{Overlay, lay, written}
use Rattle.statement_evaluation.specs.Effect.{Effect, Gives, Faults, effect}
use Rattle.bound_statements.specs.Levels.{is_unlocked, asked as asked_by}
use Rattle.bound_statements.proofs.LevelLemmas.{asked-locked}
use Rattle.statement_evaluation.proofs.LevelEffects.{unlocked-writes}
use Rattle.statement_evaluation.proofs.WriteLemmas.{OnGives}
use Rattle.bound_statements.specs.Plan.{Request, request, plan, opened, asks_on, reads_table}
use Rattle.machine_model.specs.Session.{Task, Ask, Do, Session, Held, Performed, Goes, Fails, Kind, Begins, Commits, RollsBack, Works, kind, perform}
use Rattle.machine_model.specs.Session.{perform_by, worked}
use Rattle.machine_model.specs.Go.{replied, Scene, Run, taking, go, stopped, failed, finished_by, is_broken, held_up, look_with, waiting_with}
use Rattle.machine_model.specs.declared.reply.Reply.TheVariants.{Had, Waits, Refused}
use Rattle.machine_model.specs.Claims.{Claims, may_write, claims_of}
use Rattle.machine_model.specs.Sound.{HoldsAll, Backed, UnderLocks}
use Rattle.serial_history.specs.Serial.{Transaction, Did, is_work, commit_of, Tally, ended_well, dropped, did, tally_by, tally_end, go_tally, Replay, SerialRun}
use Rattle.serial_history.specs.Serial.{WorkHeld, Repeats, locked_work, locked_commit}
use Rattle.events.specs.declared.event.Fault.TheVariants.{Aborted}
use Rattle.lock_modes.specs.declared.mode.Mode.{Mode}
use Rattle.lock_modes.specs.declared.mode.Mode.TheVariants.{IntentShare, IntentExclusive, Share, ShareIntent, Exclusive}
use Rattle.lock_modes.specs.declared.resource.Resource.{Resource}
use Rattle.lock_modes.specs.declared.resource.Resource.TheVariants.{Table, Row as RowOf}
use Rattle.machine_model.specs.declared.status.Status.{Status}
use Rattle.machine_model.specs.declared.status.Status.TheVariants.{Outside, InBlock, Broken}
use Rattle.bound_statements.specs.declared.statement.Bound.{Bound}
use Rattle.machine_model.proofs.Basics.{both_true, either_true, known}
use Rattle.machine_model.specs.Footprint.{HeldFits}
use Rattle.machine_model.proofs.Solo.{OnGoes, held-fits-empty, perform-held}
use Rattle.machine_model.proofs.Footprint.{AgreeOff, AgreeOff-lay, AgreeOff-laid, ReadsOff, effect-same}
use Rattle.machine_model.proofs.Effects.{Friends, reading-table, reading-row}
use Rattle.machine_model.proofs.Claiming.{claims-held}
use Rattle.machine_model.proofs.Stronger.{asks-has, held-claim, stronger-taking, under-stronger, holds-stronger, covers-taking, holds-plan}
use Rattle.machine_model.proofs.Kept.{fits-inserted, perform_by-under}
use Rattle.serial_history.proofs.WorkTold.{TellsWork, effect-work}

Replay-push : (rows : Rows') (o : Overlay) (ds : List Did) (o2 : Overlay) (d : Did) (ws : List Write) → Replay rows o ds o2
    → effect d.statement (lay o2 rows) ≡ Gives d.events ws → Replay rows o (ds ++ d ∷ []) (written ws o2)
Replay-push rows o [] o2 d ws r e = (ws, subst (λ x. effect d.statement (lay x rows) ≡ Gives d.events ws) (sym r) e, ap (written ws) r)
Replay-push rows o (x ∷ ds) o2 d ws r e = (r.0, r.1, Replay-push rows (written r.0 o) ds o2 d ws r.2 e)

SerialRun-push : (rows : Rows') (ts : List Transaction) (last : Rows') (t : Transaction) (o : Overlay) → SerialRun rows ts last → Replay last empty t.work o
    → SerialRun rows (ts ++ t ∷ []) (lay o last)
SerialRun-push rows [] last t o s r = (o, subst (λ x. Replay x empty t.work o) (sym s) r, ap (lay o) s)
SerialRun-push rows (u ∷ ts) last t o s r = (s.0, s.1, SerialRun-push (lay s.0 rows) ts last t o s.2 r)

lay-empty : (rows : Rows') → lay empty rows ≡ rows
unfolding lay empty entries
lay-empty rows = refl

commits-push : (ts : List Transaction) (t : Transaction) → map locked_commit (ts ++ t ∷ []) ≡ map locked_commit ts ++ locked_commit t ∷ []
commits-push [] t = refl
commits-push (u ∷ ts) t = ap (λ us. locked_commit u ∷ us) (commits-push ts t)

-- without the selects that asked for no lock, the work that ends is a transaction more, or there is none and the rows stay
SerialRun-locked : (rows : Rows') (ts : List Transaction) (last : Rows') (i : ℕ) (ds : List Did) (o : Overlay) → SerialRun rows (map locked_commit ts) last
    → Replay last empty (locked_work ds) o → SerialRun rows (map locked_commit (ts ++ commit_of i ds)) (lay o last)
SerialRun-locked rows ts last i [] o s r =
    let same : lay o last ≡ last = ap (λ x. lay x last) (sym r) ∙ lay-empty last in
    subst (λ us. SerialRun rows (map locked_commit us) (lay o last)) (sym (append-nil ts)) (subst (λ x. SerialRun rows (map locked_commit ts) x) (sym same) s)
SerialRun-locked rows ts last i (d ∷ ds) o s r =
    let t : Transaction = record { session = i; work = d ∷ ds } in
    subst (λ us. SerialRun rows us (lay o last)) (sym (commits-push ts t)) (SerialRun-push rows (map locked_commit ts) last (locked_commit t) o s r)

-- what is done last is left out or not
locked-one : (ds : List Did) (d : Did) → locked_work (ds ++ d ∷ []) ≡ locked_work ds ++ cond (is_unlocked d.statement) [] (d ∷ [])
locked-one [] d = refl
locked-one (e ∷ ds) d = at (is_unlocked e.statement) (locked-one ds d)
  where
    at : (b : Bool) → locked_work (ds ++ d ∷ []) ≡ locked_work ds ++ cond (is_unlocked d.statement) [] (d ∷ [])
        → cond b (locked_work (ds ++ d ∷ [])) (e ∷ locked_work (ds ++ d ∷ []))
        ≡ cond b (locked_work ds) (e ∷ locked_work ds) ++ cond (is_unlocked d.statement) [] (d ∷ [])
    at true rec = rec
    at false rec = ap (λ xs. e ∷ xs) rec

locked-did : (ds : List Did) (d : Did) (b : Bool) → is_unlocked d.statement ≡ false
    → locked_work (ds ++ cond b (d ∷ []) []) ≡ locked_work ds ++ cond b (d ∷ []) []
locked-did ds d true u = locked-one ds d ∙ ap (λ c. locked_work ds ++ cond c [] (d ∷ [])) u
locked-did ds d false u = ap locked_work (append-nil ds) ∙ sym (append-nil (locked_work ds))

unlocked-did : (ds : List Did) (d : Did) (b : Bool) → is_unlocked d.statement ≡ true → locked_work (ds ++ cond b (d ∷ []) []) ≡ locked_work ds
unlocked-did ds d true u = locked-one ds d ∙ ap (λ c. locked_work ds ++ cond c [] (d ∷ [])) u ∙ append-nil (locked_work ds)
unlocked-did ds d false u = ap locked_work (append-nil ds)

-- a statement that is no work leaves the overlay
Replay-did : (rows : Rows') (o : Overlay) (ds : List Did) (o2 : Overlay) (d : Did) (ws : List Write) (b : Bool) → TellsWork b (Gives d.events ws)
    → Replay rows o ds o2 → effect d.statement (lay o2 rows) ≡ Gives d.events ws → Replay rows o (ds ++ cond b (d ∷ []) []) (written ws o2)
Replay-did rows o ds o2 d ws true h r e = Replay-push rows o ds o2 d ws r e
Replay-did rows o ds o2 d ws false h r e =
    subst (λ xs. Replay rows o xs (written ws o2)) (sym (append-nil ds)) (subst (λ x. Replay rows o ds (written x o2)) (sym h.1) r)

-- each statement reads nothing that the side may write
abbrev AllOff : Claims → List Did → Type 0
AllOff claims [] = Unit {0}
AllOff claims (d ∷ ds) = ReadsOff claims d.statement × AllOff claims ds

Replay-same : (claims : Claims) (a b : Rows') (o : Overlay) (ds : List Did) (o2 : Overlay) → AgreeOff claims a b → AllOff claims ds → Replay a o ds o2
    → Replay b o ds o2
Replay-same claims a b o [] o2 h off r = r
Replay-same claims a b o (d ∷ ds) o2 h off r =
    let e : effect d.statement (lay o a) ≡ effect d.statement (lay o b) = effect-same d.statement _ _
    (λ p x. (AgreeOff-lay claims a b o h).each p (off.0.each p x)) in
    (r.0, sym e ∙ r.1, Replay-same claims a b (written r.0 o) ds o2 h off.1 r.2)

-- ---- what is held lets the work be read again

reads-up : (n m : Mode) → AtLeast n m → reads_table m ≡ true → reads_table n ≡ true
reads-up IntentShare IntentShare e t = cc
reads-up IntentShare IntentExclusive e t = cc
reads-up IntentShare Share e t = cc
reads-up IntentShare ShareIntent e t = cc
reads-up IntentShare Exclusive e t = cc
reads-up IntentExclusive IntentShare e t = cc
reads-up IntentExclusive IntentExclusive e t = cc
reads-up IntentExclusive Share e t = cc
reads-up IntentExclusive ShareIntent e t = cc
reads-up IntentExclusive Exclusive e t = cc
reads-up Share m e t = refl
reads-up ShareIntent m e t = refl
reads-up Exclusive m e t = refl

work-push : (h : Held) (ds : List Did) (d : Did) → WorkHeld h ds → HoldsAll h (plan d.statement) → WorkHeld h (ds ++ d ∷ [])
work-push h [] d w x = (x, tt)
work-push h (y ∷ ds) d w x = (w.0, work-push h ds d w.1 x)

work-did : (h : Held) (ds : List Did) (d : Did) (b : Bool) → WorkHeld h ds → HoldsAll h (plan d.statement) → WorkHeld h (ds ++ cond b (d ∷ []) [])
work-did h ds d true w x = work-push h ds d w x
work-did h ds d false w x = subst (WorkHeld h) (sym (append-nil ds)) w

pub work-taking : (h : Held) (r : Resource) (m : Mode) (s : Session) → s.held ≡ h → (ds : List Did) → WorkHeld h ds
    → WorkHeld (Rattle.finite_maps.specs.Map.insert h r (Rattle.lock_queues.specs.Locks.wanted (get h r) m)) ds
work-taking h r m s e [] w = tt
work-taking h r m s e (d ∷ ds) w = (holds-stronger h _ (stronger-taking h r m) (plan d.statement) w.0, work-taking h r m s e ds w.1)

-- modes held by two sessions that fit make friends of them
pub held-friends : (ours theirs : Held) → ((r : Resource) (m n : Mode) → get ours r ≡ Some m → get theirs r ≡ Some n → compatible m n ≡ true)
    → Friends (claims_of ours []) (claims_of theirs [])
held-friends ours theirs f = record { fit = λ r m n p q. f r m n (held-claim ours r m p) (held-claim theirs r n q) }

held-reads-off : (ours theirs : Held) (st : Bound) → Friends (claims_of ours []) (claims_of theirs []) → HoldsAll ours (plan st)
    → ReadsOff (claims_of theirs []) st
held-reads-off ours theirs st friends holds = record { each = λ p o. ⊎_elim (λ w. absurd (against p o w)) (λ f. f) (known (may_write (claims_of theirs []) p)) }
  where
    against : (p : RowPlace) → opened (plan st) p ≡ true → may_write (claims_of theirs []) p ≡ true → ⊥
    against p o w =
        ⊎_elim
        (λ h. let x = asks-has ours (plan st) (Table p.0) reads_table reads-up holds h in reading-table (claims_of ours [])
        (claims_of theirs []) friends p x.mode (claims-held ours [] (Table p.0) x.mode x.is) x.passes w)
        (λ h.
        let b = both_true (asks_on (plan st) (RowOf p.0 p.1) reads_table) _ h in
        let x = asks-has ours (plan st) (RowOf p.0 p.1) reads_table reads-up holds b.0 in
        let y = asks-has ours (plan st) (Table p.0) (λ _. true) (λ n m a t. refl) holds b.1 in
        reading-row (claims_of ours []) (claims_of theirs []) friends p x.mode y.mode (claims-held ours [] (RowOf p.0 p.1) x.mode x.is)
        (claims-held ours [] (Table p.0) y.mode y.is) w)
        (either_true (asks_on (plan st) (Table p.0) reads_table) _ o)

-- ---- one session, between two of its steps

-- what others commit under locks that fit leaves it so
pub repeats-other : (rows : Rows') (s : Session) (work : List Did) (o : Overlay) (theirs : Held)
    → ((r : Resource) (m n : Mode) → get s.held r ≡ Some m → get theirs r ≡ Some n → compatible m n ≡ true) → UnderLocks o theirs → Repeats rows s work
    → Repeats (lay o rows) s work
repeats-other rows s work o theirs fit under x =
    let friends = held-friends s.held theirs fit in
    let agree : AgreeOff (claims_of theirs []) (lay o rows) rows = AgreeOff-laid (claims_of theirs []) o rows (record { each = under }) in
    record {
      replay = Replay-same (claims_of theirs []) rows (lay o rows) empty work s.overlay (record { each = λ p off. sym (agree.each p off) })
          (all work x.held) x.replay;
      held = x.held;
    }
  where
    all : (ds : List Did) → WorkHeld s.held ds → AllOff (claims_of theirs []) ds
    all [] h = tt
    all (d ∷ ds) h = (held-reads-off s.held theirs d.statement (held-friends s.held theirs fit) h.0, all ds h.1)

-- ---- a session goes. `start` is the rows after the main setups, `Others` what has to outlive its commits
module _ (start : Rows') (Others : Rows' → Type 0) (e : Scene) (i : ℕ)
    (keeps : (h : Held) (o : Overlay) (rows : Rows') → HeldFits e i h → UnderLocks o h → Others rows → Others (lay o rows)) where
  pub record Telling (s : Session) (rows : Rows') (t : Tally) : Type 0 where
    pub serial : SerialRun start (map locked_commit t.commits) rows
    pub own : Repeats rows s (locked_work t.work)
    pub others : Others rows

  repeats-none : (rows : Rows') (s : Session) → s.overlay ≡ empty → Repeats rows s []
  repeats-none rows s is = record { replay = sym is; held = tt }

  -- a commit, a drop
  committed : (s s2 : Session) (rows : Rows') (t : Tally) → s2.overlay ≡ empty → HeldFits e i s.held → UnderLocks s.overlay s.held → Telling s rows t
      → Telling s2 (lay s.overlay rows) (ended_well t)
  committed s s2 rows t is fits under x =
      record {
        serial = SerialRun-locked start t.commits rows t.session t.work s.overlay x.serial x.own.replay;
        own = repeats-none (lay s.overlay rows) s2 is;
        others = keeps s.held s.overlay rows fits under x.others;
      }

  let_go : (s s2 : Session) (rows : Rows') (t : Tally) → s2.overlay ≡ empty → Telling s rows t → Telling s2 rows (dropped t)
  let_go s s2 rows t is x = record { serial = x.serial; own = repeats-none rows s2 is; others = x.others }

  as_is : (s s2 : Session) (rows : Rows') (t : Tally) → s2.overlay ≡ s.overlay → s2.held ≡ s.held → Telling s rows t → Telling s2 rows t
  as_is s s2 rows t o h x =
      record {
        serial = x.serial;
        own = record {
          replay = subst (Replay rows empty (locked_work t.work)) (sym o) x.own.replay;
          held = subst (λ k. WorkHeld k (locked_work t.work)) (sym h) x.own.held;
        };
        others = x.others;
      }

  worked-tells : (at : Status) (s : Session) (rows : Rows') (st : Bound) (f : Effect) (t : Tally) → effect st (lay s.overlay rows) ≡ f → TellsWork (is_work st) f
      → HoldsAll s.held (asked_by st) → Telling s rows t → OnGoes (worked s rows f) (λ s2 rows2. Telling s2 rows2 (did at st f t))
  worked-tells at s rows st (Gives events writes) t is tells holds x =
      record { serial = x.serial; own = by (is_unlocked st) refl; others = x.others }
    where
      new : Did
      new = record { status = at; statement = st; events = events }

      all : List Did
      all = t.work ++ cond (is_work st) (new ∷ []) []

      s2 : Session
      s2 = record s { overlay = written writes s.overlay; transcript = s.transcript ++ events }

      by : (b : Bool) → is_unlocked st ≡ b → Repeats rows s2 (locked_work all)
      by true u =
          let none : writes ≡ [] = subst (λ f. OnGives f (λ ws. ws ≡ [])) is (unlocked-writes st (lay s.overlay rows) u) in
          let same : locked_work all ≡ locked_work t.work = unlocked-did t.work new (is_work st) u in
          record {
            replay = subst (λ ds. Replay rows empty ds (written writes s.overlay)) (sym same)
                (subst (λ ws. Replay rows empty (locked_work t.work) (written ws s.overlay)) (sym none) x.own.replay);
            held = subst (WorkHeld s.held) (sym same) x.own.held;
          }
      by false u =
          let same : locked_work all ≡ locked_work t.work ++ cond (is_work st) (new ∷ []) [] = locked-did t.work new (is_work st) u in
          record {
            replay = subst (λ ds. Replay rows empty ds (written writes s.overlay)) (sym same)
                (Replay-did rows empty (locked_work t.work) s.overlay new writes (is_work st) tells x.own.replay is);
            held = subst (WorkHeld s.held) (sym same)
                (work-did s.held (locked_work t.work) new (is_work st) x.own.held (subst (HoldsAll s.held) (asked-locked st u) holds));
          }
  worked-tells at s rows st (Faults f) t is tells holds x = tt

  perform_by-tells : (status : Status) (k : Kind) (s : Session) (rows : Rows') (st : Bound) (t : Tally) → HeldFits e i s.held → UnderLocks s.overlay s.held
      → HoldsAll s.held (asked_by st) → Telling s rows t → OnGoes (perform_by status k s rows st) (λ s2 rows2. Telling s2 rows2 (tally_by status k s rows st t))
  perform_by-tells Outside (Begins level) s rows st t fits under holds x = as_is s _ rows t refl refl x
  perform_by-tells (InBlock of) (Begins level) s rows st t fits under holds x = as_is s _ rows t refl refl x
  perform_by-tells Broken (Begins level) s rows st t fits under holds x = tt
  perform_by-tells Outside Commits s rows st t fits under holds x = committed s _ rows t refl fits under x
  perform_by-tells (InBlock of) Commits s rows st t fits under holds x = committed s _ rows t refl fits under x
  perform_by-tells Broken Commits s rows st t fits under holds x = let_go s _ rows t refl x
  perform_by-tells Outside RollsBack s rows st t fits under holds x = let_go s _ rows t refl x
  perform_by-tells (InBlock of) RollsBack s rows st t fits under holds x = let_go s _ rows t refl x
  perform_by-tells Broken RollsBack s rows st t fits under holds x = let_go s _ rows t refl x
  perform_by-tells Outside Works s rows st t fits under holds x = worked-tells Outside s rows st (effect st (lay s.overlay rows)) t refl
      (effect-work st (lay s.overlay rows)) holds x
  perform_by-tells (InBlock of) Works s rows st t fits under holds x = worked-tells (InBlock of) s rows st (effect st (lay s.overlay rows)) t refl
      (effect-work st (lay s.overlay rows)) holds x
  perform_by-tells Broken Works s rows st t fits under holds x = tt

  end-tells : (status : Status) (s : Session) (rows : Rows') (t : Tally) → HeldFits e i s.held → UnderLocks s.overlay s.held → Telling s rows t
      → Telling (finished_by status s rows).session (finished_by status s rows).rows (tally_end status t)
  end-tells Outside s rows t fits under x = committed s _ rows t refl fits under x
  end-tells (InBlock of) s rows t fits under x = as_is s _ rows t refl refl x
  end-tells Broken s rows t fits under x = as_is s _ rows t refl refl x

  taking-tells : (s : Session) (r : Resource) (m : Mode) (rows : Rows') (t : Tally) → Telling s rows t → Telling (taking s r m) rows t
  taking-tells s r m rows t x =
      record {
        serial = x.serial;
        own = record { replay = x.own.replay; held = work-taking s.held r m s refl (locked_work t.work) x.own.held };
        others = x.others;
      }

  abbrev AfterRun : Run → Tally → Type 0
  AfterRun r t = Telling r.session r.rows t

  pub go-tells : (s : Session) (rows : Rows') (ts : List Task) (t : Tally) (have : List Request) → HeldFits e i s.held → UnderLocks s.overlay s.held
      → HoldsAll s.held have → Backed have ts → Telling s rows t → AfterRun (go e i s rows ts) (go_tally e i s rows ts t)
  go-tells s rows [] t have fits under holds backed x = end-tells s.status s rows t fits under x
  go-tells s rows (Ask n r m ∷ ts) t have fits under holds backed x =
      asked (is_broken s.status) (may_have e.count e.look e.waits i (get s.held r) r m) n
      (closes_ring e.count (look_with e i s.held) (waiting_with e i r m) i) refl
      (λ h. go-tells (taking s r m) rows ts t (request r m ∷ have)
      (fits-inserted e i s.held r _ (both_true (Rattle.lock_queues.specs.Locks.fits e.count e.look i r
      (Rattle.lock_queues.specs.Locks.wanted (get s.held r) m)) _ h).0 fits) (under-stronger s.overlay s.held _ (stronger-taking s.held r m) under)
      (covers-taking s.held r m, holds-stronger s.held _ (stronger-taking s.held r m) have holds) backed (taking-tells s r m rows t x))
    where
      asked : (b h n c : Bool) → may_have e.count e.look e.waits i (get s.held r) r m ≡ h
          → (may_have e.count e.look e.waits i (get s.held r) r m ≡ true → AfterRun (go e i (taking s r m) rows ts) (go_tally e i (taking s r m) rows ts t))
          → AfterRun (elim b [
            | true ↦ stopped e (failed s rows Aborted)
            | false ↦ elim (replied h n c) [
              | Had ↦ go e i (taking s r m) rows ts
              | Waits ↦ held_up e i s rows r m ts
              | Refused f ↦ stopped e (failed s rows f)
            ]
          ])
          (elim b [ true ↦ dropped t | false ↦ elim (replied h n c) [ Had ↦ go_tally e i (taking s r m) rows ts t | Waits ↦ t | Refused f ↦ dropped t ] ])
      asked true h n c is rec = let_go s _ rows t refl x
      asked false true n c is rec = rec is
      asked false false true c is rec = let_go s _ rows t refl x
      asked false false false true is rec = let_go s _ rows t refl x
      asked false false false false is rec = as_is s _ rows t refl refl x
  go-tells s rows (Do st ∷ ts) t have fits under holds backed x =
      done (perform s rows st) (perform-held (HeldFits e i) (held-fits-empty e i) s rows st fits)
      (perform_by-under s.status (kind st) s rows st (holds-plan s.held have (asked_by st) holds backed.0) under)
      (perform_by-tells s.status (kind st) s rows st t fits under (holds-plan s.held have (asked_by st) holds backed.0) x)
      (λ s2 rows2 f u y. go-tells s2 rows2 ts (tally_by s.status (kind st) s rows st t) [] f u tt backed.1 y)
    where
      done : (d : Performed) → OnGoes d (λ s2 rows2. HeldFits e i s2.held) → OnGoes d (λ s2 rows2. UnderLocks s2.overlay s2.held)
          → OnGoes d (λ s2 rows2. Telling s2 rows2 (tally_by s.status (kind st) s rows st t))
          → ((s2 : Session) (rows2 : Rows') → HeldFits e i s2.held → UnderLocks s2.overlay s2.held
          → Telling s2 rows2 (tally_by s.status (kind st) s rows st t)
          → AfterRun (go e i s2 rows2 ts) (go_tally e i s2 rows2 ts (tally_by s.status (kind st) s rows st t)))
          → AfterRun (elim d [ Goes s2 rows2 ↦ go e i s2 rows2 ts | Fails f ↦ stopped e (failed s rows f) ])
          (elim d [ Goes s2 rows2 ↦ go_tally e i s2 rows2 ts (tally_by s.status (kind st) s rows st t) | Fails f ↦ dropped t ])
      done (Goes s2 rows2) f u y rec = rec s2 rows2 f u y
      done (Fails fault) f u y rec = let_go s _ rows t refl x
