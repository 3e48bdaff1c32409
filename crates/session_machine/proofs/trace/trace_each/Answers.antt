use Rattle.std.proofs.lemmas.List.{drop_all}
use Rattle.std.proofs.Common.{◌≡◌, refl, ◌++◌, ◌+◌, ◌≤◌, sym, ap, ◌∙◌, subst, drop, [], List, Some, None, length, arith}
use Rattle.lock_modes.specs.Resource.{resource_at}
use Rattle.bound_statements.specs.Levels.{asked}
use Rattle.bound_statements.specs.Plan.{request, plan, nowait}
use Rattle.line_moments.specs.Moments.{let_go}
use Rattle.line_moments.specs.declared.moment.Change.{Change}
use Rattle.lock_queues.specs.Locks.{closes_ring}
use Rattle.lock_queues.specs.LockTable.{Locks, look_in, queued, slice}
use Rattle.machine_model.specs.declared.reply.Reply.TheVariants.{Had, Waits, Refused}
use Rattle.machine_model.specs.Go.{is_broken}
use Rattle.machine_model.specs.Session.{Task, asks, in_status}
use Rattle.machine_model.proofs.Levels.{nowait-in_status}
use Rattle.row_tables.specs.Layers.{Layers, no_rows}
use Rattle.session_machine.specs.declared.trace.Trace.{Trace}
use Rattle.session_steps.specs.State.{SessionState}
use Rattle.session_steps.specs.Going.{Standing, standing, GoesOnTo, IsReply, after_reply}
use Rattle.session_machine.specs.Tracing.{Traces, TracesOn, had_by, refusal_at}
use Rattle.session_steps.proofs.Moves.{goes-on-on, had}
use Rattle.session_steps.proofs.Requests.{plan-ends, plan-next, next-to-ask, all-asked, asked-plan}
use Rattle.session_machine.proofs.Tracing.{asked-at, reply-at, traces-on-on, traces-on-stop, below-still, refused-closes, had-traces, waits-traces, refused-traces, broken-traces}
use Rattle.session_machine.proofs.trace.trace_each.Goals as goal

-- no request is left
pub returns-in_default : goal.returns-in_default
returns-in_default c = λ s e.
    let i = c.args.session in
    let st = c.args.statement.now in
    let q = in_status c.args.status st in
    let t = c.args.locks.now in
    let u = c.loop-number.locks in
    let cs = c.args.trace.now.changes in
    let now = c.loop-number.trace in
    let none = plan-ends (asked q) c.loop-number.number (asked-at c.args.status st c.loop-number.number None c.requires.locked (sym c.in_default.ensures)) in
    record {
      goes = λ l ts. subst (λ qs. GoesOnTo i (standing l t s) (asks (nowait q) (drop c.args.first (asked q)) ts) (standing l u s) (asks (nowait q) qs ts))
          none (c.loop-number.invariant.goes s e l ts);
      traces = λ l ts.
          subst (λ qs. TracesOn c.args.count i cs (standing l t s) (asks (nowait q) (drop c.args.first (asked q)) ts) now.changes (standing l u s) (asks (nowait q) qs ts))
          none (c.loop-number.invariant.traces s e l ts);
      holds = all-asked i u q c.loop-number.number none c.loop-number.invariant.ready;
      below = c.loop-number.invariant.below;
      whole = c.loop-number.invariant.whole;
    }

pub returns : goal.returns
returns c = λ s e.
    let i = c.args.session in
    let st = c.args.statement.now in
    let q = in_status c.args.status st in
    let t = c.args.locks.now in
    let u = c.loop-number.locks in
    let cs = c.args.trace.now.changes in
    let now = c.loop-number.trace in
    let end : length (asked q) ≤ c.loop-number.number = subst (λ qs. length qs ≤ c.loop-number.number) (sym (asked-plan c.args.status st c.requires.locked))
    (let e : length (plan st) ≤ c.loop-number.number = omega (arith, c.requires.short, c.loop-number-test.false) in e) in
    let none = drop_all c.loop-number.number (asked q) end in
    record {
      goes = λ l ts. subst (λ qs. GoesOnTo i (standing l t s) (asks (nowait q) (drop c.args.first (asked q)) ts) (standing l u s) (asks (nowait q) qs ts))
          none (c.loop-number.invariant.goes s e l ts);
      traces = λ l ts.
          subst (λ qs. TracesOn c.args.count i cs (standing l t s) (asks (nowait q) (drop c.args.first (asked q)) ts) now.changes (standing l u s) (asks (nowait q) qs ts))
          none (c.loop-number.invariant.traces s e l ts);
      holds = all-asked i u q c.loop-number.number none c.loop-number.invariant.ready;
      below = c.loop-number.invariant.below;
      whole = c.loop-number.invariant.whole;
    }

-- a failed block takes no request
pub returns-then-is_broken : goal.returns-then-is_broken
returns-then-is_broken c = λ s e l ts.
    let i = c.args.session in
    let st = c.args.statement.now in
    let q = in_status c.args.status st in
    let u = c.loop-number.locks in
    let n = c.loop-number.number in
    let r = resource_at c.in-Some.place in
    let m = c.in-Some.mode in
    let here = plan-next (asked q) n (request r m) (asked-at c.args.status st n (Some (request r m)) c.requires.locked (sym c.in-Some.ensures)) in
    let rest = asks (nowait q) (drop (n + 1) (asked q)) ts in
    let before = c.loop-number.trace.changes in
    let goes = c.loop-number.invariant.goes s e l ts in
    let ended : record { changes = before ++ let_go (slice i u.held); refusal = None }
    ≡ record { changes = c.append.new.self; refusal = c.loop-number.trace.refusal } =
    λ k. record {
      changes = (ap (λ g. before ++ g) (sym c.in_ok-gone.ensures) ∙ sym c.in_ok-append.ensures) k;
      refusal = sym c.loop-number.invariant.whole k;
    } in
    let stop = subst (λ qs. Traces c.args.count i before (standing l u s) (asks (nowait q) qs ts) (record {
      changes = before ++ let_go (slice i u.held);
      refusal = None;
    })) (sym here)
    (broken-traces c.args.count i before (standing l u s) r m (nowait q) rest (ap is_broken e ∙ sym c.if-is_broken.ensures)) in
    subst (λ (tr : Trace). Traces c.args.count i c.args.trace.now.changes (standing l c.args.locks.now s) (asks (nowait q) (drop c.args.first (asked q)) ts) tr)
    ended
    (traces-on-stop c.args.count i c.args.trace.now.changes before (standing l c.args.locks.now s) (standing l u s)
    (asks (nowait q) (drop c.args.first (asked q)) ts) (asks (nowait q) (drop n (asked q)) ts) _ goes.others goes.waits (c.loop-number.invariant.traces s e l ts)
    stop)

-- the request waits
pub returns-in-Waits : goal.returns-in-Waits
returns-in-Waits c = λ s e l ts.
    let i = c.args.session in
    let st = c.args.statement.now in
    let q = in_status c.args.status st in
    let u = c.loop-number.locks in
    let n = c.loop-number.number in
    let r = resource_at c.in-Some.place in
    let m = c.in-Some.mode in
    let here = plan-next (asked q) n (request r m) (asked-at c.args.status st n (Some (request r m)) c.requires.locked (sym c.in-Some.ensures)) in
    let is : IsReply u i r m (nowait q) Waits = reply-at c.args.status st u i r m Waits (subst (IsReply u i r m (nowait st)) c.in-Waits.is c.in_ok-ask_one.ensures.reply) in
    let rest = asks (nowait q) (drop (n + 1) (asked q)) ts in
    let before = c.loop-number.trace.changes in
    let goes = c.loop-number.invariant.goes s e l ts in
    let ended : record { changes = before; refusal = None } ≡ c.loop-number.trace =
    λ k. record { changes = before; refusal = sym c.loop-number.invariant.whole k } in
    let stop = subst (λ qs. Traces c.args.count i before (standing l u s) (asks (nowait q) qs ts) (record {
      changes = before;
      refusal = None;
    })) (sym here)
    (waits-traces c.args.count i before (standing l u s) r m (nowait q) rest (ap is_broken e ∙ sym c.if-is_broken.ensures) is) in
    subst (λ (tr : Trace). Traces c.args.count i c.args.trace.now.changes (standing l c.args.locks.now s) (asks (nowait q) (drop c.args.first (asked q)) ts) tr)
    ended
    (traces-on-stop c.args.count i c.args.trace.now.changes before (standing l c.args.locks.now s) (standing l u s)
    (asks (nowait q) (drop c.args.first (asked q)) ts) (asks (nowait q) (drop n (asked q)) ts) _ goes.others goes.waits (c.loop-number.invariant.traces s e l ts)
    stop)

-- the request is refused, and its wait would close a ring if it would wait
pub refusal_of-requires-clause-closes : goal.refusal_of-requires-clause-closes
refusal_of-requires-clause-closes c = λ waits.
    let i = c.args.session in
    let st = c.args.statement.now in
    let q = in_status c.args.status st in
    let u = c.loop-number.locks in
    let r = resource_at c.in-Some.place in
    let m = c.in-Some.mode in
    let f = c.in-Refused.field-0 in
    let is : IsReply u i r m (nowait q) (Refused f) = reply-at c.args.status st u i r m (Refused f) (subst (IsReply u i r m (nowait st)) c.in-Refused.is c.in_ok-ask_one.ensures.reply) in
    let change = c.in_ok-ask_one.ensures.change ∙ ap (after_reply u i r m) c.in-Refused.is in
    subst (λ (t : Locks). closes_ring c.args.count (look_in t) (queued t i r m).waits i ≡ Rattle.std.proofs.Common.true) (sym change)
    (refused-closes c.args.count i u r m (nowait q) f c.loop-number.invariant.below c.requires.known is (nowait-in_status c.args.status st ∙ waits))

pub returns-in-Refused : goal.returns-in-Refused
returns-in-Refused c = λ s e l ts.
    let i = c.args.session in
    let st = c.args.statement.now in
    let q = in_status c.args.status st in
    let u = c.loop-number.locks in
    let n = c.loop-number.number in
    let r = resource_at c.in-Some.place in
    let m = c.in-Some.mode in
    let f = c.in-Refused.field-0 in
    let here = plan-next (asked q) n (request r m) (asked-at c.args.status st n (Some (request r m)) c.requires.locked (sym c.in-Some.ensures)) in
    let is : IsReply u i r m (nowait q) (Refused f) = reply-at c.args.status st u i r m (Refused f) (subst (IsReply u i r m (nowait st)) c.in-Refused.is c.in_ok-ask_one.ensures.reply) in
    let change = c.in_ok-ask_one.ensures.change ∙ ap (after_reply u i r m) c.in-Refused.is in
    let rest = asks (nowait q) (drop (n + 1) (asked q)) ts in
    let before = c.loop-number.trace.changes in
    let goes = c.loop-number.invariant.goes s e l ts in
    let ended : record { changes = before ++ let_go (slice i u.held); refusal = Some (refusal_at c.args.count u i (nowait q) r m) }
    ≡ record { changes = c.append-in-Refused.new.self; refusal = Some c.in_ok-refusal-in-Refused.refusal } =
    λ k. record {
      changes = (ap (λ (t : Locks). before ++ let_go (slice i t.held)) (sym change) ∙ ap (λ g. before ++ g) (sym c.in_ok-gone-in-Refused.ensures)
          ∙ sym c.in_ok-append-in-Refused.ensures) k;
      refusal = Some ((ap (λ t. refusal_at c.args.count t i (nowait q) r m) (sym change)
          ∙ ap (λ b. refusal_at c.args.count c.ask_one.new.locks i b r m) (nowait-in_status c.args.status st) ∙ sym c.in_ok-refusal-in-Refused.ensures) k);
    } in
    let stop = subst (λ qs. Traces c.args.count i before (standing l u s) (asks (nowait q) qs ts) (record {
      changes = before ++ let_go (slice i u.held);
      refusal = Some (refusal_at c.args.count u i (nowait q) r m);
    })) (sym here)
    (refused-traces c.args.count i before (standing l u s) r m (nowait q) rest f (ap is_broken e ∙ sym c.if-is_broken.ensures) is) in
    subst (λ (tr : Trace). Traces c.args.count i c.args.trace.now.changes (standing l c.args.locks.now s) (asks (nowait q) (drop c.args.first (asked q)) ts) tr)
    ended
    (traces-on-stop c.args.count i c.args.trace.now.changes before (standing l c.args.locks.now s) (standing l u s)
    (asks (nowait q) (drop c.args.first (asked q)) ts) (asks (nowait q) (drop n (asked q)) ts) _ goes.others goes.waits (c.loop-number.invariant.traces s e l ts)
    stop)

-- the request is had, and the others follow
pub loop-number-preserved : goal.loop-number-preserved
loop-number-preserved c =
    let i = c.args.session in
    let st = c.args.statement.now in
    let q = in_status c.args.status st in
    let t = c.loop-number.locks in
    let n = c.loop-number.number in
    let r = resource_at c.in-Some.place in
    let m = c.in-Some.mode in
    let cs = c.args.trace.now.changes in
    let before = c.loop-number.trace.changes in
    let here = plan-next (asked q) n (request r m) (asked-at c.args.status st n (Some (request r m)) c.requires.locked (sym c.in-Some.ensures)) in
    let is : IsReply t i r m (nowait q) Had = reply-at c.args.status st t i r m Had (subst (IsReply t i r m (nowait st)) c.in-Had.is c.in_ok-ask_one.ensures.reply) in
    let change = c.in_ok-ask_one.ensures.change ∙ ap (after_reply t i r m) c.in-Had.is in
    let now = after_reply t i r m Had in
    let one : (s : SessionState) → s.status ≡ c.args.status → (l : Layers) (ts : List Task) → GoesOnTo i (standing l t s) (asks (nowait q) (drop n (asked q)) ts) (standing l now s) (asks (nowait q) (drop (n + 1) (asked q)) ts) =
    λ s e l ts. subst (λ qs. GoesOnTo i (standing l t s) (asks (nowait q) qs ts) (standing l now s) (asks (nowait q) (drop (n + 1) (asked q)) ts)) (sym here)
    (had i (standing l t s) r m (nowait q) (asks (nowait q) (drop (n + 1) (asked q)) ts) (ap is_broken e ∙ sym c.if-is_broken.ensures) is) in
    let some = one (record { status = c.args.status; transcript = [] }) refl no_rows [] in
    record {
      goes = λ s e l ts.
          let rest = asks (nowait q) (drop (n + 1) (asked q)) ts in
          let first = asks (nowait q) (drop c.args.first (asked q)) ts in
          subst (λ u. GoesOnTo i (standing l c.args.locks.now s) first (standing l u s) rest) (sym change)
          (goes-on-on i (standing l c.args.locks.now s) (standing l t s) (standing l now s) first (asks (nowait q) (drop n (asked q)) ts) rest
          (c.loop-number.invariant.goes s e l ts) (one s e l ts));
      traces = λ s e l ts.
          let rest = asks (nowait q) (drop (n + 1) (asked q)) ts in
          let first = asks (nowait q) (drop c.args.first (asked q)) ts in
          let goes = c.loop-number.invariant.goes s e l ts in
          let told : before ++ had_by r (look_in now i r) ≡ c.tell_had.new.changes =
          ap (λ (u : Locks). before ++ had_by r (look_in u i r)) (sym change) ∙ sym c.in_ok-tell_had-in-Had.ensures in
          let step = subst (λ qs. TracesOn c.args.count i before (standing l t s) (asks (nowait q) qs ts) (before ++ had_by r (look_in now i r)) (standing l now s) rest)
          (sym here) (had-traces c.args.count i before (standing l t s) r m (nowait q) rest (ap is_broken e ∙ sym c.if-is_broken.ensures) is) in
          subst (λ (ds : List Change). TracesOn c.args.count i cs (standing l c.args.locks.now s) first ds (standing l c.ask_one.new.locks s) rest) told
          (subst (λ u. TracesOn c.args.count i cs (standing l c.args.locks.now s) first (before ++ had_by r (look_in now i r)) (standing l u s) rest) (sym change)
          (traces-on-on c.args.count i cs before (before ++ had_by r (look_in now i r)) (standing l c.args.locks.now s) (standing l t s) (standing l now s) first
          (asks (nowait q) (drop n (asked q)) ts) rest goes.others goes.waits (c.loop-number.invariant.traces s e l ts) step));
      ready = subst (λ u. Rattle.session_steps.specs.Going.IsToAsk i u q (n + 1)) (sym change)
          (next-to-ask i t q n (request r m) (asked-at c.args.status st n (Some (request r m)) c.requires.locked (sym c.in-Some.ensures)) c.loop-number.invariant.ready);
      below = subst (Rattle.lock_queues.specs.Laws.IsBelow c.args.count) (sym change)
          (below-still c.args.count i no_rows no_rows t now c.loop-number.invariant.below c.requires.known some.others some.waits);
      whole = c.loop-number.invariant.whole;
    }
