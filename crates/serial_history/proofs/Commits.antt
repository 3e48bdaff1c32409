-- Commits are added behind those that there are.
use Rattle.std.proofs.Common.{refl, sym, ap, ◌∙◌, ℕ, zero, suc, Bool, true, false, List, [], ◌∷◌, ◌++◌, append-nil, append_assoc, get_or, length, Option, Some, None}
use Rattle.lock_queues.specs.Locks.{Spot, next_grant, waits_now}
use Rattle.lock_modes.specs.Rows.{Rows'}
use Rattle.lock_modes.specs.declared.mode.Mode.{Mode}
use Rattle.lock_modes.specs.declared.resource.Resource.{Resource}
use Rattle.bound_specs.specs.Spec.{Step, no_step}
use Rattle.bound_statements.specs.declared.statement.Bound.{Bound}
use Rattle.statement_evaluation.specs.Effect.{Effect, Gives, Faults, effect}
use Rattle.row_tables.specs.Overlay.{lay}
use Rattle.machine_model.specs.Session.{Task, Ask, Do, Session, Performed, Goes, Fails, Kind, Begins, Commits, RollsBack, Works, kind, perform, tasks_of, note}
use Rattle.machine_model.specs.Go.{Scene, taking, is_broken, reply_in}
use Rattle.machine_model.specs.declared.reply.Reply.{Reply}
use Rattle.machine_model.specs.declared.reply.Reply.TheVariants.{Had, Waits, Refused}
use Rattle.machine_model.specs.World.{World, session_at, look_of, scene_of, granted, goes, left_to_do, send}
use Rattle.machine_model.specs.declared.status.Status.{Status}
use Rattle.machine_model.specs.declared.status.Status.TheVariants.{Outside, InBlock, Broken}
use Rattle.events.specs.declared.event.Event.TheVariants.{Sent, Resumed}
use Rattle.serial_history.specs.Laws.{ComeFirst}
use Rattle.serial_history.specs.Serial.{Transaction, Tally, History, commit_of, ended_well, dropped, did, tally_by, tally_end, go_tally, tally_of, goes_told, granted_told, settle_told, send_told, send_all_told}

stays : (xs : List Transaction) → ComeFirst xs xs
stays xs = ([], sym (append-nil xs))

abbrev Adds : Tally → Tally → Type 0
Adds t u = ComeFirst t.commits u.commits

abbrev Grows : History → History → Type 0
Grows h g = ComeFirst h.commits g.commits

then-on : (xs ys zs : List Transaction) → ComeFirst xs ys → ComeFirst ys zs → ComeFirst xs zs
then-on xs ys zs p q = (p.0 ++ q.0, q.1 ∙ ap (λ (l : List Transaction). l ++ q.0) p.1 ∙ append_assoc xs p.0 q.0)

did-on : (at : Status) (st : Bound) (e : Effect) (t : Tally) → Adds t (did at st e t)
did-on at st (Gives events writes) t = stays t.commits
did-on at st (Faults f) t = stays t.commits

well-on : (t : Tally) → Adds t (ended_well t)
well-on t = (commit_of t.session t.work, refl)

by-on : (status : Status) (k : Kind) (s : Session) (rows : Rows') (st : Bound) (t : Tally) → Adds t (tally_by status k s rows st t)
by-on Outside (Begins level) s rows st t = stays t.commits
by-on (InBlock of) (Begins level) s rows st t = stays t.commits
by-on Broken (Begins level) s rows st t = stays t.commits
by-on Outside Commits s rows st t = well-on t
by-on (InBlock of) Commits s rows st t = well-on t
by-on Broken Commits s rows st t = stays t.commits
by-on Outside RollsBack s rows st t = stays t.commits
by-on (InBlock of) RollsBack s rows st t = stays t.commits
by-on Broken RollsBack s rows st t = stays t.commits
by-on Outside Works s rows st t = did-on Outside st (effect st (lay s.overlay rows)) t
by-on (InBlock of) Works s rows st t = did-on (InBlock of) st (effect st (lay s.overlay rows)) t
by-on Broken Works s rows st t = stays t.commits

end-on : (status : Status) (t : Tally) → Adds t (tally_end status t)
end-on Outside t = well-on t
end-on (InBlock of) t = stays t.commits
end-on Broken t = stays t.commits

asked-on : (e : Scene) (i : ℕ) (s : Session) (rows : Rows') (nowait : Bool) (r : Resource) (m : Mode) (ts : List Task) (t : Tally)
    → Adds t (go_tally e i (taking s r m) rows ts t) → Adds t (go_tally e i s rows (Ask nowait r m ∷ ts) t)
asked-on e i s rows nowait r m ts t had = broken (is_broken s.status)
  where
    replied : (reply : Reply) → Adds t (elim reply [ Had ↦ go_tally e i (taking s r m) rows ts t | Waits ↦ t | Refused f ↦ dropped t ])
    replied Had = had
    replied Waits = stays t.commits
    replied (Refused f) = stays t.commits

    broken : (b : Bool) → Adds t (elim b [
      | true ↦ dropped t
      | false ↦ elim (reply_in e i s nowait r m) [ Had ↦ go_tally e i (taking s r m) rows ts t | Waits ↦ t | Refused f ↦ dropped t ]
    ])
    broken true = stays t.commits
    broken false = replied (reply_in e i s nowait r m)

done-on : (e : Scene) (i : ℕ) (s : Session) (rows : Rows') (st : Bound) (ts : List Task) (t : Tally)
    → ((s2 : Session) (rows2 : Rows') (u : Tally) → Adds u (go_tally e i s2 rows2 ts u))
    → Adds t (go_tally e i s rows (Do st ∷ ts) t)
done-on e i s rows st ts t next = done (perform s rows st)
  where
    done : (o : Performed) → Adds t (elim o [
      | Goes s2 rows2 ↦ go_tally e i s2 rows2 ts (tally_by s.status (kind st) s rows st t)
      | Fails f ↦ dropped t
    ])
    done (Goes s2 rows2) =
        let u : Tally = tally_by s.status (kind st) s rows st t in
        then-on t.commits u.commits (go_tally e i s2 rows2 ts u).commits (by-on s.status (kind st) s rows st t) (next s2 rows2 u)
    done (Fails f) = stays t.commits

go-on : (e : Scene) (i : ℕ) (s : Session) (rows : Rows') (ts : List Task) (t : Tally) → Adds t (go_tally e i s rows ts t)
go-on e i s rows [] t = end-on s.status t
go-on e i s rows (Ask nowait r m ∷ ts) t = asked-on e i s rows nowait r m ts t (go-on e i (taking s r m) rows ts t)
go-on e i s rows (Do st ∷ ts) t = done-on e i s rows st ts t (λ s2 rows2 u. go-on e i s2 rows2 ts u)

pub goes-on : (w : World) (i : ℕ) (s : Session) (ts : List Task) (h : History) → Grows h (goes_told w i s ts h)
goes-on w i s ts h = go-on (scene_of w) i s w.rows ts (tally_of h i)

granted-on : (w : World) (spot : Spot) (h : History) → Grows h (granted_told w spot h)
granted-on w spot h =
    goes-on (record w { waits = spot.before ++ spot.after }) spot.wait.session
    (note (record (taking (session_at w spot.wait.session) spot.wait.resource spot.wait.mode) { rest = [] }) Resumed)
    (session_at w spot.wait.session).rest h

next-on : (n : ℕ) (w : World) (h : History) (o : Option Spot)
    → ((spot : Spot) → Grows (granted_told w spot h) (settle_told n (granted w spot) (granted_told w spot h)))
    → Grows h (elim o [ None ↦ h | Some spot ↦ settle_told n (granted w spot) (granted_told w spot h) ])
next-on n w h None rest = stays h.commits
next-on n w h (Some spot) rest =
    then-on h.commits (granted_told w spot h).commits (settle_told n (granted w spot) (granted_told w spot h)).commits (granted-on w spot h) (rest spot)

pub settle-on : (n : ℕ) (w : World) (h : History) → Grows h (settle_told n w h)
settle-on zero w h = stays h.commits
settle-on (suc n) w h =
    next-on n w h (next_grant (length w.sessions) (look_of w) w.waits) (λ spot. settle-on n (granted w spot) (granted_told w spot h))

sent-on : (w : World) (i : ℕ) (s : Session) (ts : List Task) (h : History) (b : Bool)
    → Grows h (elim b [ true ↦ h | false ↦ settle_told (left_to_do (goes w i s ts)) (goes w i s ts) (goes_told w i s ts h) ])
sent-on w i s ts h true = stays h.commits
sent-on w i s ts h false =
    let v : World = goes w i s ts in
    then-on h.commits (goes_told w i s ts h).commits (settle_told (left_to_do v) v (goes_told w i s ts h)).commits (goes-on w i s ts h)
    (settle-on (left_to_do v) v (goes_told w i s ts h))

send-on : (steps : List Step) (w : World) (k : ℕ) (h : History) → Grows h (send_told steps w k h)
send-on steps w k h =
    let st : Step = get_or steps k no_step in
    sent-on w st.session (note (session_at w st.session) (Sent k)) (tasks_of (session_at w st.session).status st.statements) h (waits_now w.waits st.session)

all-on : (steps : List Step) (w : World) (ks : List ℕ) (h : History) → Grows h (send_all_told steps w ks h)
all-on steps w [] h = stays h.commits
all-on steps w (k ∷ ks) h =
    let v : World = send steps w k in
    let g : History = send_told steps w k h in
    then-on h.commits g.commits (send_all_told steps v ks g).commits (send-on steps w k h) (all-on steps v ks g)

-- the commits of a line's front are a front of the line's commits
pub front-first : (steps : List Step) (w : World) (ks more : List ℕ) (h : History)
    → ComeFirst (send_all_told steps w ks h).commits (send_all_told steps w (ks ++ more) h).commits
front-first steps w [] more h = all-on steps w more h
front-first steps w (k ∷ ks) more h = front-first steps (send steps w k) ks more (send_told steps w k h)
