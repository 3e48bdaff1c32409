-- What each move of a session comes to: a request, a statement, the end of a step.
use Rattle.std.proofs.Common.{◌≡◌, ◌≢◌, refl, sym, ap, ◌∙◌, subst, ℕ, ◌<◌, Bool, true, false, List, [], ◌∷◌, ◌++◌, Option, Some, None, ◌⊎◌, inl, inr, arith}
use Rattle.std.proofs.lemmas.List.{append-nil}
use Rattle.finite_maps.specs.Map.{get, empty}
use Rattle.lock_modes.specs.declared.mode.Mode.{Mode}
use Rattle.lock_modes.specs.declared.resource.Resource.{Resource}
use Rattle.lock_modes.specs.Rows.{Rows'}
use Rattle.lock_queues.specs.Locks.{waits_now}
use Rattle.lock_queues.specs.LockTable.{Locks, look_in, taken, let_go, slice}
use Rattle.lock_queues.proofs.Slices.{get-slice}
use Rattle.bound_statements.specs.declared.statement.Bound.{Bound}
use Rattle.bound_statements.specs.declared.statement.Level.{Level}
use Rattle.events.specs.declared.event.Fault.{Fault}
use Rattle.events.specs.declared.event.Fault.TheVariants.{Aborted}
use Rattle.events.specs.declared.event.Event.{Event}
use Rattle.events.specs.declared.event.Event.TheVariants.{Done, Warned, Committed, RolledBack}
use Rattle.events.specs.declared.event.Warning.TheVariants.{NoBlock}
use Rattle.statement_evaluation.specs.Effect.{Effect, Gives, Faults, effect}
use Rattle.statement_execution.specs.Run.{events_of, fault_of, left_by}
use Rattle.row_tables.specs.Layers.{Layers, sight, undone, kept}
use Rattle.session_steps.specs.State.{SessionState}
use Rattle.machine_model.specs.declared.status.Status.{Status}
use Rattle.machine_model.specs.declared.status.Status.TheVariants.{Outside, InBlock, Broken}
use Rattle.machine_model.specs.Session.{Task, Ask, Do, Session, released, Begins, Commits, RollsBack, Works, kind, Performed, Goes, Fails, perform, perform_by}
use Rattle.machine_model.specs.Session.{worked}
use Rattle.machine_model.specs.Go.{Scene, Run, go, stopped, failed, finished_by, is_broken, reply_in, held_up, taking}
use Rattle.machine_model.specs.declared.reply.Reply.{Reply}
use Rattle.machine_model.specs.declared.reply.Reply.TheVariants.{Had, Waits, Refused}
use Rattle.session_steps.specs.State.{Own, session_of, SameOthers}
use Rattle.session_steps.specs.Going.{Standing, session_in, run_in, IsScene, GoesOnTo, StopsIn, waiting_in, told, committed, failed_in, finished_by_status}
use Rattle.session_steps.specs.Going.{finished_in, standing, ended_by, commits_by, commits_in, rolls_back_in, DoesTo, FailsBy, Does, IsReply}
use Rattle.session_steps.proofs.States.{same-refl, same-trans, session-taken, same-taken, held-let_go, same-let_go, waits-let_go, overlay-undone}
use Rattle.session_steps.proofs.States.{overlay-kept, same-undone, same-kept, overlay-wrote_each, same-left_by, committed-left_by}
use Rattle.session_steps.proofs.Going.{reply-is}

-- ---- moves in turn

-- what the others hold is as it was
pub still-scene : (e : Scene) (i : ℕ) (l m : Layers) (t u : Locks) → SameOthers i l m t u → u.waits ≡ t.waits → IsScene e i t → IsScene e i u
still-scene e i l m t u same waits scene = record {
  others = λ c r ne. look c r ne ∙ scene.others c r ne;
  waits = waits ∙ scene.waits;
  below = record {
    holders = λ c r le. look c r (λ k. let lt = scene.known in absurd (omega arith)) ∙ scene.below.holders c r le;
    waiters = subst (Rattle.lock_queues.specs.Sound.EachWait (λ w. w.session < e.count)) (sym waits) scene.below.waiters;
  };
  known = scene.known;
}
  where
    look : (c : ℕ) (r : Resource) → c ≢ i → look_in u c r ≡ look_in t c r
    look c r ne = sym (get-slice c u.held r) ∙ ap (λ h. get h r) (same.held c ne) ∙ get-slice c t.held r

-- nothing is done yet
pub goes-on-here : (i : ℕ) (x : Standing) (ts : List Task) → GoesOnTo i x ts x ts
goes-on-here i x ts = record { goes = λ e scene. refl; others = same-refl i x.layers x.locks; waits = refl }

pub goes-on-on : (i : ℕ) (x y z : Standing) (ts us vs : List Task) → GoesOnTo i x ts y us → GoesOnTo i y us z vs → GoesOnTo i x ts z vs
goes-on-on i x y z ts us vs p q = record {
  goes = λ e scene. p.goes e scene ∙ q.goes e (still-scene e i x.layers y.layers x.locks y.locks p.others p.waits scene);
  others = same-trans i x.layers y.layers z.layers x.locks y.locks z.locks p.others q.others;
  waits = q.waits ∙ p.waits;
}

pub goes-on-stops : (i : ℕ) (x y z : Standing) (ts us : List Task) → GoesOnTo i x ts y us → StopsIn i y us z → StopsIn i x ts z
goes-on-stops i x y z ts us p q = record {
  goes = λ e scene. p.goes e scene ∙ q.goes e (still-scene e i x.layers y.layers x.locks y.locks p.others p.waits scene);
  others = same-trans i x.layers y.layers z.layers x.locks y.locks z.locks p.others q.others;
}

-- ---- a transaction that ends

-- the session without its overlay and its locks
released-undone : (i : ℕ) (x : Standing) (own : Own) → session_of (undone i x.layers) (let_go x.locks i) i own
    ≡ record (released (session_in i x)) { status = own.status; rest = own.rest; transcript = own.transcript }
released-undone i x own = λ k. record {
  overlay = overlay-undone i x.layers k;
  held = held-let_go x.locks i k;
  status = own.status;
  rest = own.rest;
  transcript = own.transcript;
}

others-undone : (i : ℕ) (x : Standing) → SameOthers i x.layers (undone i x.layers) x.locks (let_go x.locks i)
others-undone i x = same-trans i x.layers (undone i x.layers) (undone i x.layers) x.locks x.locks (let_go x.locks i) (same-undone i x.layers x.locks)
    (same-let_go (undone i x.layers) x.locks i)

others-kept : (i : ℕ) (x : Standing) → SameOthers i x.layers (kept i x.layers) x.locks (let_go x.locks i)
others-kept i x = same-trans i x.layers (kept i x.layers) (kept i x.layers) x.locks x.locks (let_go x.locks i) (same-kept i x.layers x.locks)
    (same-let_go (kept i x.layers) x.locks i)

-- a fault ends the step, and the transaction
fails-to : (e : Scene) (i : ℕ) (x : Standing) (f : Fault) → waits_now x.locks.waits i ≡ false → IsScene e i x.locks
    → stopped e (failed (session_in i x) x.layers.committed f) ≡ run_in i (failed_in i x f)
fails-to e i x f idle scene = λ k. record {
  session = sym (released-undone i x (failed_in i x f).own) k;
  rows = x.layers.committed;
  waits = (sym scene.waits ∙ sym (waits-let_go x.locks i idle)) k;
}

-- ---- a request

-- the machine at a request, by what is answered
abbrev asked : Scene → ℕ → Session → Rows' → Resource → Mode → List Task → Bool → Reply → Run
asked e i s rows r m ts b a =
    elim b [
      | true ↦ stopped e (failed s rows Aborted)
      | false ↦ elim a [ Had ↦ go e i (taking s r m) rows ts | Waits ↦ held_up e i s rows r m ts | Refused f ↦ stopped e (failed s rows f) ]
    ]

module _ (i : ℕ) (x : Standing) (r : Resource) (m : Mode) (n : Bool) (ts : List Task) where
  answered-so : (e : Scene) → IsScene e i x.locks → (a : Reply) → is_broken x.own.status ≡ false → IsReply x.locks i r m n a
      → go e i (session_in i x) x.layers.committed (Ask n r m ∷ ts) ≡ asked e i (session_in i x) x.layers.committed r m ts false a
  answered-so e scene a whole is = λ k. asked e i (session_in i x) x.layers.committed r m ts (whole k)
      (reply-is e i x.locks (session_in i x) refl scene r m n a is k)

  pub had : is_broken x.own.status ≡ false → IsReply x.locks i r m n Had
      → GoesOnTo i x (Ask n r m ∷ ts) (record { layers = x.layers; locks = taken x.locks i r m; own = x.own }) ts
  had whole is = record {
    goes = λ e scene. answered-so e scene Had whole is ∙ ap (λ s. go e i s x.layers.committed ts) (sym (session-taken x.layers x.locks i r m x.own));
    others = same-taken x.layers x.locks i r m;
    waits = refl;
  }

  pub waits-there : is_broken x.own.status ≡ false → IsReply x.locks i r m n Waits → StopsIn i x (Ask n r m ∷ ts) (waiting_in i x r m ts)
  waits-there whole is = record {
    goes = λ e scene. answered-so e scene Waits whole is
        ∙ (λ k. record {
          session = session_in i (waiting_in i x r m ts);
          rows = x.layers.committed;
          waits = sym scene.waits k
              ++ record { session = i; resource = r; mode = m } ∷ [];
        });
    others = record { overlays = λ c ne. refl; held = λ c ne. refl };
  }

  pub is-refused : (f : Fault) → is_broken x.own.status ≡ false → waits_now x.locks.waits i ≡ false → IsReply x.locks i r m n (Refused f)
      → StopsIn i x (Ask n r m ∷ ts) (failed_in i x f)
  is-refused f whole idle is = record { goes = λ e scene. answered-so e scene (Refused f) whole is ∙ fails-to e i x f idle scene; others = others-undone i x }

  pub asks-broken : is_broken x.own.status ≡ true → waits_now x.locks.waits i ≡ false → StopsIn i x (Ask n r m ∷ ts) (failed_in i x Aborted)
  asks-broken broken idle = record {
    goes = λ e scene. ap (λ b. asked e i (session_in i x) x.layers.committed r m ts b (reply_in e i (session_in i x) n r m)) broken
        ∙ fails-to e i x Aborted idle scene;
    others = others-undone i x;
  }

-- ---- a statement

-- the machine at a statement, by what it does
abbrev done_by : Scene → ℕ → Session → Rows' → List Task → Performed → Run
done_by e i s rows ts d = elim d [ Goes s2 rows2 ↦ go e i s2 rows2 ts | Fails f ↦ stopped e (failed s rows f) ]

-- a statement that leaves the session there
pub goes-there : (i : ℕ) (x y : Standing) (st : Bound) → DoesTo i x st y → (ts : List Task) → GoesOnTo i x (Do st ∷ ts) y ts
goes-there i x y st does ts = record {
  goes = λ e scene. ap (done_by e i (session_in i x) x.layers.committed ts) does.goes;
  others = does.others;
  waits = does.waits;
}

pub fails-there : (i : ℕ) (x y : Standing) (st : Bound) (f : Fault) → waits_now x.locks.waits i ≡ false → FailsBy i x st f y → (ts : List Task)
    → StopsIn i x (Do st ∷ ts) (failed_in i y f)
fails-there i x y st f idle by ts = subst (λ z. StopsIn i x (Do st ∷ ts) (failed_in i z f)) (sym by.same) (record {
  goes = λ e scene. ap (done_by e i (session_in i x) x.layers.committed ts) by.fails ∙ fails-to e i x f idle scene;
  others = others-undone i x;
})

-- a statement that works, in a session that is whole
abbrev pub works_in : ℕ → Standing → Effect → Standing
works_in i x e = record {
  layers = left_by i e x.layers;
  locks = x.locks;
  own = record { status = x.own.status; rest = x.own.rest; transcript = x.own.transcript ++ events_of e };
}

perform-work : (i : ℕ) (x : Standing) (st : Bound) → kind st ≡ Works → is_broken x.own.status ≡ false → perform (session_in i x) x.layers.committed st
    ≡ worked (session_in i x) x.layers.committed (effect st (sight i x.layers))
perform-work i x st is whole = ap (λ k. perform_by x.own.status k (session_in i x) x.layers.committed st) is ∙ at x.own.status whole
  where
    at : (status : Status) → is_broken status ≡ false → perform_by status Works (session_in i x) x.layers.committed st
        ≡ worked (session_in i x) x.layers.committed (effect st (sight i x.layers))
    at Outside h = refl
    at (InBlock level) h = refl
    at Broken h = cc

worked-there : (i : ℕ) (x : Standing) (e : Effect) → fault_of e ≡ None → worked (session_in i x) x.layers.committed e
    ≡ Goes (session_in i (works_in i x e)) (works_in i x e).layers.committed
worked-there i x (Gives events writes) is = λ k.
    Goes (record {
      overlay = sym (overlay-wrote_each i writes x.layers) k;
      held = slice i x.locks.held;
      status = x.own.status;
      rest = x.own.rest;
      transcript = x.own.transcript ++ events;
    }) (sym (committed-left_by i (Gives events writes) x.layers) k)
worked-there i x (Faults f) is = cc

worked-fails : (s : Session) (rows : Rows') (e : Effect) (f : Fault) → fault_of e ≡ Some f → worked s rows e ≡ Fails f
worked-fails s rows (Gives events writes) f is = cc
worked-fails s rows (Faults g) f is = let same : g ≡ f = cc in ap Fails same

works-there : (i : ℕ) (x : Standing) (st : Bound) → kind st ≡ Works → is_broken x.own.status ≡ false → fault_of (effect st (sight i x.layers)) ≡ None
    → DoesTo i x st (works_in i x (effect st (sight i x.layers)))
works-there i x st is whole none =
    let e = effect st (sight i x.layers) in
    record { goes = perform-work i x st is whole ∙ worked-there i x e none; others = same-left_by i e x.layers x.locks; waits = refl }

works-fails : (i : ℕ) (x : Standing) (st : Bound) (f : Fault) → kind st ≡ Works → is_broken x.own.status ≡ false
    → fault_of (effect st (sight i x.layers)) ≡ Some f → perform (session_in i x) x.layers.committed st ≡ Fails f
works-fails i x st f is whole fails =
    let e = effect st (sight i x.layers) in
    perform-work i x st is whole ∙ worked-fails (session_in i x) x.layers.committed e f fails

-- ---- the end of a step

pub ends-outside : (i : ℕ) (x : Standing) → x.own.status ≡ Outside → waits_now x.locks.waits i ≡ false → StopsIn i x [] (told (committed i x Outside) Done)
ends-outside i x is idle = record {
  goes = λ e scene.
      ap (λ status. stopped e (finished_by status (session_in i x) x.layers.committed)) is
      ∙ (λ k. record {
        session = record {
          overlay = sym (overlay-kept i x.layers) k;
          held = sym (held-let_go x.locks i) k;
          status = is k;
          rest = x.own.rest;
          transcript = x.own.transcript ++ Done ∷ [];
        };
        rows = sight i x.layers;
        waits = (sym scene.waits ∙ sym (waits-let_go x.locks i idle)) k;
      });
  others = others-kept i x;
}

pub ends-inside : (i : ℕ) (x : Standing) → (x.own.status ≡ Outside → ⊥) → StopsIn i x [] (told x Done)
ends-inside i x inside = record {
  goes = λ e scene. at e x.own.status inside ∙ (λ k. record { session = session_in i (told x Done); rows = x.layers.committed; waits = sym scene.waits k });
  others = same-refl i x.layers x.locks;
}
  where
    at : (e : Scene) (status : Status) → (status ≡ Outside → ⊥) → stopped e (finished_by status (session_in i x) x.layers.committed)
        ≡ record { session = session_in i (told x Done); rows = x.layers.committed; waits = e.waits }
    at e Outside h = absurd (h refl)
    at e (InBlock level) h = refl
    at e Broken h = refl

-- ---- blocks

module _ (i : ℕ) (l : Layers) (t : Locks) (s : SessionState) (st : Bound) where
  -- the session without its overlay and its locks
  dropped-in : (own : Own) → record { overlay = empty; held = empty; status = own.status; rest = own.rest; transcript = own.transcript }
      ≡ session_of (undone i l) (let_go t i) i own
  dropped-in own = λ k. record {
    overlay = sym (overlay-undone i l) k;
    held = sym (held-let_go t i) k;
    status = own.status;
    rest = own.rest;
    transcript = own.transcript;
  }

  kept-in : (own : Own) → record { overlay = empty; held = empty; status = own.status; rest = own.rest; transcript = own.transcript }
      ≡ session_of (kept i l) (let_go t i) i own
  kept-in own = λ k. record {
    overlay = sym (overlay-kept i l) k;
    held = sym (held-let_go t i) k;
    status = own.status;
    rest = own.rest;
    transcript = own.transcript;
  }

  pub rolls-back-there : kind st ≡ RollsBack → waits_now t.waits i ≡ false → DoesTo i (standing l t s) st (rolls_back_in i (standing l t s))
  rolls-back-there is idle = record {
    goes = ap (λ k. perform_by s.status k (session_in i (standing l t s)) l.committed st) is ∙ at s.status s.transcript;
    others = others-undone i (standing l t s);
    waits = waits-let_go t i idle;
  }
    where
      at : (status : Status) (tr : List Event) → perform_by status RollsBack (session_of l t i (record { status = status; rest = []; transcript = tr }))
          l.committed st ≡ Goes (session_in i (standing (undone i l) (let_go t i) (ended_by status tr RolledBack))) l.committed
      at Outside tr = ap (λ x. Goes x l.committed)
          (dropped-in (record { status = Outside; rest = []; transcript = (tr ++ Warned NoBlock ∷ []) ++ RolledBack ∷ [] }))
      at (InBlock level) tr = ap (λ x. Goes x l.committed) (dropped-in (record { status = Outside; rest = []; transcript = tr ++ RolledBack ∷ [] }))
      at Broken tr = ap (λ x. Goes x l.committed) (dropped-in (record { status = Outside; rest = []; transcript = tr ++ RolledBack ∷ [] }))

  pub commits-there : kind st ≡ Commits → waits_now t.waits i ≡ false → DoesTo i (standing l t s) st (commits_in i (standing l t s))
  commits-there is idle = record {
    goes = ap (λ k. perform_by s.status k (session_in i (standing l t s)) l.committed st) is ∙ at s.status s.transcript;
    others = others s.status s.transcript;
    waits = waits s.status s.transcript;
  }
    where
      at : (status : Status) (tr : List Event) → perform_by status Commits (session_of l t i (record { status = status; rest = []; transcript = tr }))
          l.committed st
          ≡ Goes (session_in i (commits_by status i (standing l t (record { status = status; transcript = tr }))))
          (commits_by status i (standing l t (record { status = status; transcript = tr }))).layers.committed
      at Outside tr = ap (λ x. Goes x (sight i l))
          (kept-in (record { status = Outside; rest = []; transcript = (tr ++ Warned NoBlock ∷ []) ++ Committed ∷ [] }))
      at (InBlock level) tr = ap (λ x. Goes x (sight i l)) (kept-in (record { status = Outside; rest = []; transcript = tr ++ Committed ∷ [] }))
      at Broken tr = ap (λ x. Goes x l.committed) (dropped-in (record { status = Outside; rest = []; transcript = tr ++ RolledBack ∷ [] }))

      others : (status : Status) (tr : List Event) → let y = commits_by status i (standing l t (record { status = status; transcript = tr }))
          in SameOthers i l y.layers t y.locks
      others Outside tr = others-kept i (standing l t s)
      others (InBlock level) tr = others-kept i (standing l t s)
      others Broken tr = others-undone i (standing l t s)

      waits : (status : Status) (tr : List Event) → (commits_by status i (standing l t (record { status = status; transcript = tr }))).locks.waits ≡ t.waits
      waits Outside tr = waits-let_go t i idle
      waits (InBlock level) tr = waits-let_go t i idle
      waits Broken tr = waits-let_go t i idle

  -- in a block that has failed only its end has an effect
  pub broken-fails : is_broken s.status ≡ true → ((level : Level) × (kind st ≡ Begins level)) ⊎ (kind st ≡ Works) → FailsBy i (standing l t s) st Aborted (standing l t s)
  broken-fails broken (inl begins) = record {
    fails = ap (λ k. perform_by s.status k (session_in i (standing l t s)) l.committed st) begins.1 ∙ at s.status broken;
    same = refl;
  }
    where
      at : (status : Status) → is_broken status ≡ true → perform_by status (Begins begins.0) (session_in i (standing l t s)) l.committed st ≡ Fails Aborted
      at Outside h = cc
      at (InBlock level) h = cc
      at Broken h = refl
  broken-fails broken (inr is) = record {
    fails = ap (λ k. perform_by s.status k (session_in i (standing l t s)) l.committed st) is ∙ at s.status broken;
    same = refl;
  }
    where
      at : (status : Status) → is_broken status ≡ true → perform_by status Works (session_in i (standing l t s)) l.committed st ≡ Fails Aborted
      at Outside h = cc
      at (InBlock level) h = cc
      at Broken h = refl

-- a step ends
pub ends-there : (i : ℕ) (x : Standing) → waits_now x.locks.waits i ≡ false → StopsIn i x [] (finished_in i x)
ends-there i x idle = at x.own.status refl
  where
    at : (status : Status) → x.own.status ≡ status → StopsIn i x [] (finished_by_status status i x)
    at Outside is = ends-outside i x is idle
    at (InBlock level) is = ends-inside i x (λ e. let no : InBlock level ≡ Outside = sym is ∙ e in cc)
    at Broken is = ends-inside i x (λ e. let no : Broken ≡ Outside = sym is ∙ e in cc)

-- ---- one statement

-- an effect that faults leaves and tells nothing
faults-nothing : (i : ℕ) (e : Effect) (f : Fault) (l : Layers) → fault_of e ≡ Some f → (left_by i e l ≡ l) × (events_of e ≡ [])
faults-nothing i (Gives events writes) f l is = absurd (let no : None ≡ Some f = is in cc)
faults-nothing i (Faults g) f l is = (refl, refl)

-- a statement that works does what its effect is
pub does-work : (i : ℕ) (l m : Layers) (t : Locks) (s : SessionState) (st : Bound) (tr : List Event) (fault : Option Fault) → kind st ≡ Works
    → is_broken s.status ≡ false
    → fault ≡ fault_of (effect st (sight i l)) → m ≡ left_by i (effect st (sight i l)) l → tr ≡ s.transcript ++ events_of (effect st (sight i l))
    → Does i (standing l t s) st (standing m t (record { status = s.status; transcript = tr })) fault
does-work i l m t s st tr None is whole fault left told =
    subst (DoesTo i (standing l t s) st) (λ k. record {
      layers = sym left k;
      locks = t;
      own = record { status = s.status; rest = []; transcript = sym told k };
    })
    (works-there i (standing l t s) st is whole (sym fault))
does-work i l m t s st tr (Some f) is whole fault left told =
    let nothing = faults-nothing i (effect st (sight i l)) f l (sym fault) in
    record {
      fails = works-fails i (standing l t s) st f is whole (sym fault);
      same = λ k. record {
        layers = (left ∙ nothing.0) k;
        locks = t;
        own = record { status = s.status; rest = []; transcript = (told ∙ ap (λ es. s.transcript ++ es) nothing.1 ∙ append-nil s.transcript) k };
      };
    }
