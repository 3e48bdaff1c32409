-- What a session does where it stands so with its block is no select that asks for no lock, where its tasks have none.
use Rattle.std.proofs.Common.{◌≡◌, refl, sym, ◌∙◌, subst, ℕ, Bool, true, false, cond, ◌||◌, List, [], ◌∷◌, ◌++◌, ◌==◌, All, eq-eqb}
use Rattle.std.proofs.lemmas.List.Elements.{All-head, All-tail}
use Rattle.std.proofs.lemmas.List.Folds.{list_any-append}
use Rattle.finite_maps.specs.Map.{get}
use Rattle.lock_queues.specs.declared.wait.Wait.{Wait}
use Rattle.lock_queues.specs.Locks.{may_have, closes_ring, waits_now}
use Rattle.lock_modes.specs.declared.mode.Mode.{Mode}
use Rattle.lock_modes.specs.declared.resource.Resource.{Resource}
use Rattle.lock_modes.specs.Rows.{Rows'}
use Rattle.row_tables.specs.Overlay.{lay}
use Rattle.bound_statements.specs.Levels.{is_unlocked, asked}
use Rattle.bound_statements.specs.Plan.{Request, nowait}
use Rattle.bound_statements.specs.declared.statement.Bound.{Bound}
use Rattle.statement_evaluation.specs.Effect.{Effect, Gives, Faults, effect}
use Rattle.events.specs.declared.event.Fault.{Fault}
use Rattle.events.specs.declared.event.Fault.TheVariants.{Deadlock, Aborted, Unavailable}
use Rattle.machine_model.specs.declared.reply.Reply.TheVariants.{Had, Waits, Refused}
use Rattle.machine_model.specs.declared.status.Status.{Status}
use Rattle.machine_model.specs.declared.status.Status.TheVariants.{Outside, InBlock, Broken}
use Rattle.machine_model.specs.Go.{replied, Scene, Run, Stop, taking, is_broken, failed, finished_by, stopped, go, held_up, look_with, waiting_with}
use Rattle.machine_model.specs.Session.{Task, Ask, Do, asks, Session, Performed, Goes, Fails, Kind, Begins, Commits, RollsBack, Works, kind, behind_by, behind, in_status}
use Rattle.machine_model.specs.Session.{tasks_of, perform, perform_by, worked}
use Rattle.machine_model.proofs.Levels.{kind-in_status, StandsAt, perform-stands}
use Rattle.machine_model.proofs.Solo.{OnGoes}
use Rattle.serial_history.specs.Serial.{Did, Transaction, is_work, commit_of, Tally, ended_well, dropped, did, tally_by, tally_end, go_tally, AllLocked, CommitsLocked}

left-false : (a b : Bool) → (a || b) ≡ false → a ≡ false
left-false false b h = refl
left-false true b h = h

right-false : (a b : Bool) → (a || b) ≡ false → b ≡ false
right-false false b h = h
right-false true b h = absurd (let k : true ≡ false = h in cc)

pub any-left : (us vs : List Wait) (c : ℕ) → waits_now (us ++ vs) c ≡ false → waits_now us c ≡ false
any-left us vs c h = left-false (waits_now us c) (waits_now vs c) (sym (list_any-append (λ (x : Wait). x.session == c) us vs) ∙ h)

pub any-right : (us vs : List Wait) (c : ℕ) → waits_now (us ++ vs) c ≡ false → waits_now vs c ≡ false
any-right us vs c h = right-false (waits_now us c) (waits_now vs c) (sym (list_any-append (λ (x : Wait). x.session == c) us vs) ∙ h)

-- who waits now is not told to be one that does not
waits-here : (e : Scene) (i : ℕ) (r : Resource) (m : Mode) → waits_now (waiting_with e i r m) i ≡ false → {A : Type 0} → A
waits-here e i r m h =
    let k : ((i == i) || false) ≡ false = any-right e.waits (record { session = i; resource = r; mode = m } ∷ []) i h in
    absurd (let a : (i == i) ≡ false = left-false (i == i) false k in let b : (i == i) ≡ true = eq-eqb i i refl in let d : true ≡ false = sym b ∙ a in cc)

module _ (P : Bound → Type 0) (At : Status → Type 0) where
  -- such a statement asks for its locks where its session stands so
  abbrev pub Locks : Type 0
  Locks = (x : Status) (st : Bound) → P st → At x → is_unlocked (in_status x st) ≡ false

-- of what is left of a step, where its session stands so with its block
abbrev pub RestLocked : (Status → Type 0) → Status → List Task → Type 0
RestLocked At x [] = Unit {0}
RestLocked At x (Ask n r m ∷ ts) = RestLocked At x ts
RestLocked At x (Do st ∷ ts) = (At x → is_unlocked st ≡ false) × RestLocked At (behind x st) ts

module _ (P : Bound → Type 0) (At : Status → Type 0) (locks : Locks P At) where
  asks-locked : (x : Status) (n : Bool) (qs : List Request) (ts : List Task) → RestLocked At x ts → RestLocked At x (asks n qs ts)
  asks-locked x n [] ts h = h
  asks-locked x n (q ∷ qs) ts h = asks-locked x n qs ts h

  pub tasks-locked : (x : Status) (ss : List Bound) → All P ss → RestLocked At x (tasks_of x ss)
  tasks-locked x [] h = tt
  tasks-locked x (s ∷ ss) h =
      let st = in_status x s in
      asks-locked x (nowait st) (asked st) (Do st ∷ tasks_of (behind x s) ss) (
        λ a. locks x s (All-head P s ss h) a,
        subst (λ k. RestLocked At (behind_by x k) (tasks_of (behind x s) ss)) (sym (kind-in_status x s)) (tasks-locked (behind x s) ss (All-tail P s ss h)),
      )

-- ---- a session goes, with nothing left of an earlier step

pub record Whole (At : Status → Type 0) (s : Session) (t : Tally) : Type 0 where
  pub rest : s.rest ≡ []
  pub work : AllLocked At t.work
  pub commits : CommitsLocked At t.commits

-- where it stops
pub record Ran (At : Status → Type 0) (e : Scene) (i : ℕ) (run : Run) (t : Tally) : Type 0 where
  pub rest : RestLocked At run.session.status run.session.rest
  pub idle : waits_now run.waits i ≡ false → run.session.rest ≡ []
  pub waits : (c : ℕ) → waits_now run.waits c ≡ false → waits_now e.waits c ≡ false
  pub work : AllLocked At t.work
  pub commits : CommitsLocked At t.commits

module _ (At : Status → Type 0) where
  work-more : (ds es : List Did) → AllLocked At ds → AllLocked At es → AllLocked At (ds ++ es)
  work-more [] es h g = g
  work-more (d ∷ ds) es h g = (h.0, work-more ds es h.1 g)

  commits-more : (ts us : List Transaction) → CommitsLocked At ts → CommitsLocked At us → CommitsLocked At (ts ++ us)
  commits-more [] us h g = g
  commits-more (t ∷ ts) us h g = (h.0, commits-more ts us h.1 g)

  commit-locked : (i : ℕ) (ds : List Did) → AllLocked At ds → CommitsLocked At (commit_of i ds)
  commit-locked i [] h = tt
  commit-locked i (d ∷ ds) h = (h, tt)

  well : (s s2 : Session) (t : Tally) → s2.rest ≡ s.rest → Whole At s t → Whole At s2 (ended_well t)
  well s s2 t same x = record {
    rest = same ∙ x.rest;
    work = tt;
    commits = commits-more t.commits (commit_of t.session t.work) x.commits (commit-locked t.session t.work x.work);
  }

  gone : (s s2 : Session) (t : Tally) → s2.rest ≡ s.rest → Whole At s t → Whole At s2 (dropped t)
  gone s s2 t same x = record { rest = same ∙ x.rest; work = tt; commits = x.commits }

  stays : (s s2 : Session) (t : Tally) → s2.rest ≡ s.rest → Whole At s t → Whole At s2 t
  stays s s2 t same x = record { rest = same ∙ x.rest; work = x.work; commits = x.commits }

  worked-whole : (x : Status) (s : Session) (rows : Rows') (st : Bound) (f : Effect) (t : Tally) → (At x → is_unlocked st ≡ false) → Whole At s t
      → OnGoes (worked s rows f) (λ s2 rows2. Whole At s2 (did x st f t))
  worked-whole x s rows st (Gives events writes) t locked w = record {
    rest = w.rest;
    work = work-more t.work (cond (is_work st) (new ∷ []) []) w.work (one (is_work st));
    commits = w.commits;
  }
    where
      new : Did
      new = record { status = x; statement = st; events = events }

      one : (b : Bool) → AllLocked At (cond b (new ∷ []) [])
      one true = (locked, tt)
      one false = tt
  worked-whole x s rows st (Faults f) t locked w = tt

  perform_by-whole : (x : Status) (k : Kind) (s : Session) (rows : Rows') (st : Bound) (t : Tally) → (At x → is_unlocked st ≡ false) → Whole At s t
      → OnGoes (perform_by x k s rows st) (λ s2 rows2. Whole At s2 (tally_by x k s rows st t))
  perform_by-whole Outside (Begins level) s rows st t locked w = stays s _ t refl w
  perform_by-whole (InBlock of) (Begins level) s rows st t locked w = stays s _ t refl w
  perform_by-whole Broken (Begins level) s rows st t locked w = tt
  perform_by-whole Outside Commits s rows st t locked w = well s _ t refl w
  perform_by-whole (InBlock of) Commits s rows st t locked w = well s _ t refl w
  perform_by-whole Broken Commits s rows st t locked w = gone s _ t refl w
  perform_by-whole Outside RollsBack s rows st t locked w = gone s _ t refl w
  perform_by-whole (InBlock of) RollsBack s rows st t locked w = gone s _ t refl w
  perform_by-whole Broken RollsBack s rows st t locked w = gone s _ t refl w
  perform_by-whole Outside Works s rows st t locked w = worked-whole Outside s rows st (effect st (lay s.overlay rows)) t locked w
  perform_by-whole (InBlock of) Works s rows st t locked w = worked-whole (InBlock of) s rows st (effect st (lay s.overlay rows)) t locked w
  perform_by-whole Broken Works s rows st t locked w = tt

  end-whole : (x : Status) (s : Session) (rows : Rows') (t : Tally) → Whole At s t → Whole At (finished_by x s rows).session (tally_end x t)
  end-whole Outside s rows t w = well s _ t refl w
  end-whole (InBlock of) s rows t w = stays s _ t refl w
  end-whole Broken s rows t w = stays s _ t refl w

  stop-ran : (e : Scene) (i : ℕ) (x : Stop) (t : Tally) → Whole At x.session t → Ran At e i (stopped e x) t
  stop-ran e i x t w = record {
    rest = subst (RestLocked At x.session.status) (sym w.rest) tt;
    idle = λ h. w.rest;
    waits = λ c h. h;
    work = w.work;
    commits = w.commits;
  }

  failed-ran : (e : Scene) (i : ℕ) (s : Session) (rows : Rows') (f : Fault) (t : Tally) → Whole At s t → Ran At e i (stopped e (failed s rows f)) (dropped t)
  failed-ran e i s rows f t w = stop-ran e i (failed s rows f) (dropped t) (record { rest = refl; work = tt; commits = w.commits })

  module _ (e : Scene) (i : ℕ) where
    pub go-ran : (s : Session) (rows : Rows') (ts : List Task) (t : Tally) → RestLocked At s.status ts → Whole At s t
        → Ran At e i (go e i s rows ts) (go_tally e i s rows ts t)
    go-ran s rows [] t locked w = stop-ran e i (finished_by s.status s rows) (tally_end s.status t) (end-whole s.status s rows t w)
    go-ran s rows (Ask n r m ∷ ts) t locked w = by (is_broken s.status) (may_have e.count e.look e.waits i (get s.held r) r m) n
        (closes_ring e.count (look_with e i s.held) (waiting_with e i r m) i) (go-ran (taking s r m) rows ts t locked (stays s (taking s r m) t refl w))
      where
        by : (b h n c : Bool) → Ran At e i (go e i (taking s r m) rows ts) (go_tally e i (taking s r m) rows ts t)
            → Ran At e i (elim b [
              | true ↦ stopped e (failed s rows Aborted)
              | false ↦ elim (replied h n c) [
                | Had ↦ go e i (taking s r m) rows ts
                | Waits ↦ held_up e i s rows r m ts
                | Refused f ↦ stopped e (failed s rows f)
              ]
            ])
            (elim b [ true ↦ dropped t | false ↦ elim (replied h n c) [ Had ↦ go_tally e i (taking s r m) rows ts t | Waits ↦ t | Refused f ↦ dropped t ] ])
        by true h n c rec = failed-ran e i s rows Aborted t w
        by false true n c rec = rec
        by false false true c rec = failed-ran e i s rows Unavailable t w
        by false false false true rec = failed-ran e i s rows Deadlock t w
        by false false false false rec = record {
          rest = locked;
          idle = λ h. waits-here e i r m h;
          waits = λ c h. any-left e.waits (record { session = i; resource = r; mode = m } ∷ []) c h;
          work = w.work;
          commits = w.commits;
        }
    go-ran s rows (Do st ∷ ts) t locked w =
        done (perform s rows st) (perform_by-whole s.status (kind st) s rows st t locked.0 w) (perform-stands s rows st)
        (λ s2 rows2 y is. go-ran s2 rows2 ts (tally_by s.status (kind st) s rows st t) (subst (λ x. RestLocked At x ts) (sym is) locked.1) y)
      where
        done : (d : Performed) → OnGoes d (λ s2 rows2. Whole At s2 (tally_by s.status (kind st) s rows st t)) → StandsAt (behind s.status st) d
            → ((s2 : Session) (rows2 : Rows') → Whole At s2 (tally_by s.status (kind st) s rows st t) → s2.status ≡ behind s.status st
            → Ran At e i (go e i s2 rows2 ts) (go_tally e i s2 rows2 ts (tally_by s.status (kind st) s rows st t)))
            → Ran At e i (elim d [ Goes s2 rows2 ↦ go e i s2 rows2 ts | Fails f ↦ stopped e (failed s rows f) ])
            (elim d [ Goes s2 rows2 ↦ go_tally e i s2 rows2 ts (tally_by s.status (kind st) s rows st t) | Fails f ↦ dropped t ])
        done (Goes s2 rows2) y is rec = rec s2 rows2 y is
        done (Fails f) y is rec = failed-ran e i s rows f t w
