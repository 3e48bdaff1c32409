use Rattle.std.proofs.Common.{ℕ, ◌≡◌, ◌++◌, ◌+◌, sym, ap, ◌∙◌, subst, ◌<◌, List, drop, [], ◌∷◌, None, drop-cons, add-one}
use Rattle.lock_queues.specs.Locks.{waits_now}
use Rattle.lock_queues.specs.LockTable.{slice}
use Rattle.line_moments.specs.Moments.{let_go, did_changes}
use Rattle.line_moments.specs.declared.moment.Change.{Change}
use Rattle.lock_queues.specs.LockTable.{Locks}
use Rattle.bound_statements.specs.declared.statement.Bound.{Bound}
use Rattle.machine_model.specs.Session.{kind, in_status}
use Rattle.machine_model.specs.declared.status.Status.{Status}
use Rattle.machine_model.proofs.Levels.{perform-behind}
use Rattle.session_steps.specs.State.{SessionState}
use Rattle.session_machine.specs.declared.trace.Course.{Course}
use Rattle.session_machine.specs.declared.trace.Course.TheVariants.{AllHad, Stops}
use Rattle.session_machine.specs.declared.trace.Trace.{Trace}
use Rattle.session_steps.specs.Going.{session_in, standing, tasks_from, Does, IsToAsk}
use Rattle.session_steps.specs.Stage.{member_at, standing_at}
use Rattle.session_machine.specs.SharedStage.{staged_of}
use Rattle.session_machine.specs.Tracing.{Traces, TracesOn, AreHad, TracesAsking}
use Rattle.session_steps.proofs.Moves.{goes-there}
use Rattle.session_steps.proofs.States.{same-trans}
use Rattle.session_steps.proofs.Steps.{to-ask, still-under, next-to-go, does-at, may-look, done-then}
use Rattle.session_machine.proofs.Tracing.{below-still, stops-trace, done-trace-then, fails-trace-then}
use Rattle.session_machine.proofs.trace.trace_on.Goals as goal

-- all are had that the statement asks for where the session stands
had-at : (count i : ℕ) (t : Locks) (s : SessionState) (st : Bound) (n : ℕ) (u : Locks) (cs : List Change) (trace : Trace) (b : Status) (course : Course)
    → course ≡ AllHad → b ≡ s.status → TracesAsking count i t s (in_status b st) n u cs trace course
    → AreHad count i t s (in_status s.status st) n u cs trace
had-at count i t s st n u cs trace b course is here asks = subst (λ d. AreHad count i t s (in_status d st) n u cs trace) here
    (subst (TracesAsking count i t s (in_status b st) n u cs trace) is asks)

pub trace_asks-requires-clause-ready : goal.trace_asks-requires-clause-ready
trace_asks-requires-clause-ready c =
    let i = c.args.session in
    let sts = c.args.statements.now in
    let k = c.loop-number.number in
    let st = c.index-statements-number.result in
    let here : drop k sts ≡ st ∷ drop (k + 1) sts = drop-cons sts k st c.loop-number-test.true
    ∙ (λ j. sym c.index-statements-number.is j ∷ drop (sym (add-one k) j) sts) in
    let b = (member_at (staged_of c.loop-number.stage) i).state.status in
    subst (λ d. IsToAsk i c.loop-number.stage.locks (in_status d st) c.loop-number.request) (sym c.status-status.ensures)
    (to-ask i c.loop-number.stage.store c.loop-number.stage.locks b sts k c.loop-number.request st here c.loop-number.invariant.ready)

-- a request waits or is refused
pub returns-in-Stops : goal.returns-in-Stops
returns-in-Stops c =
    let i = c.args.session in
    let sts = c.args.statements.now in
    let k = c.loop-number.number in
    let n = c.loop-number.request in
    let l = c.loop-number.stage.store in
    let t = c.loop-number.stage.locks in
    let s = (member_at (staged_of c.loop-number.stage) i).state in
    let st = c.index-statements-number.result in
    let here : drop k sts ≡ st ∷ drop (k + 1) sts = drop-cons sts k st c.loop-number-test.true
    ∙ (λ j. sym c.index-statements-number.is j ∷ drop (sym (add-one k) j) sts) in
    let x = standing_at i (staged_of c.args.stage.now) in
    let first = tasks_from x.own.status (drop c.args.from.statement sts) c.args.from.request in
    let cs = c.loop-number.trace.changes in
    let stops = subst (λ d. TracesAsking c.args.count i t s (in_status d st) n c.trace_asks.new.locks cs c.trace_asks.new.trace Stops) c.status-status.ensures
    (subst (TracesAsking c.args.count i t s (in_status c.status-status.result st) n c.trace_asks.new.locks cs c.trace_asks.new.trace) c.in-Stops.is
    (c.in_ok-trace_asks.ensures s (sym c.status-status.ensures))) in
    stops-trace c.args.count i c.args.changes x (standing l t s) first s.status sts k n st cs here c.loop-number.invariant.came c.loop-number.invariant.traced c.trace_asks.new.trace
    (stops l)

pub perform-requires-clause-idle : goal.perform-requires-clause-idle
perform-requires-clause-idle c =
    let i = c.args.session in
    let t = c.loop-number.stage.locks in
    let s = (member_at (staged_of c.loop-number.stage) i).state in
    let st = c.index-statements-number.result in
    let had = had-at c.args.count i t s st c.loop-number.request c.trace_asks.new.locks c.loop-number.trace.changes c.trace_asks.new.trace c.status-status.result _
    c.in-AllHad.is c.status-status.ensures (c.in_ok-trace_asks.ensures s (sym c.status-status.ensures)) in
    ap (λ ws. waits_now ws i) (had.goes c.loop-number.stage.store []).waits ∙ c.loop-number.invariant.ready.idle

-- the session holds what the statement asks for, and the others write under their locks
pub perform-requires-clause-alone : goal.perform-requires-clause-alone
perform-requires-clause-alone c =
    let i = c.args.session in
    let l = c.loop-number.stage.store in
    let t = c.loop-number.stage.locks in
    let s = (member_at (staged_of c.loop-number.stage) i).state in
    let st = c.index-statements-number.result in
    let u = c.trace_asks.new.locks in
    let had = had-at c.args.count i t s st c.loop-number.request u c.loop-number.trace.changes c.trace_asks.new.trace c.status-status.result _
    c.in-AllHad.is c.status-status.ensures (c.in_ok-trace_asks.ensures s (sym c.status-status.ensures)) in
    may-look i s.status st l u c.sound.ensures.together (still-under i l l t u (had.goes l []).others c.loop-number.invariant.ready.under) had.holds

-- the statement fails
pub returns-in-Some : goal.returns-in-Some
returns-in-Some c =
    let i = c.args.session in
    let sts = c.args.statements.now in
    let k = c.loop-number.number in
    let n = c.loop-number.request in
    let l = c.loop-number.stage.store in
    let t = c.loop-number.stage.locks in
    let s = (member_at (staged_of c.loop-number.stage) i).state in
    let st = c.index-statements-number.result in
    let here : drop k sts ≡ st ∷ drop (k + 1) sts = drop-cons sts k st c.loop-number-test.true
    ∙ (λ j. sym c.index-statements-number.is j ∷ drop (sym (add-one k) j) sts) in
    let x = standing_at i (staged_of c.args.stage.now) in
    let first = tasks_from x.own.status (drop c.args.from.statement sts) c.args.from.request in
    let cs = c.loop-number.trace.changes in
    let ds = c.trace_asks.new.trace.changes in
    let u = c.trace_asks.new.locks in
    let had = had-at c.args.count i t s st n u cs c.trace_asks.new.trace c.status-status.result _ c.in-AllHad.is c.status-status.ensures
    (c.in_ok-trace_asks.ensures s (sym c.status-status.ensures)) in
    let z = standing l u s in
    let w = standing_at i (staged_of c.perform.new.stage) in
    let fails = subst (Does i z st w) c.in-Some.is c.in_ok-_fault.ensures.does in
    let ended : record { changes = ds ++ let_go (slice i u.held); refusal = None }
    ≡ record { changes = c.append.new.self; refusal = c.trace_asks.new.trace.refusal } =
    λ j. record {
      changes = (ap (λ g. ds ++ g) (sym c.in_ok-gone.ensures) ∙ sym c.in_ok-append.ensures) j;
      refusal = sym had.whole j;
    } in
    subst (λ (tr : Trace). Traces c.args.count i c.args.changes x first tr) ended
    (fails-trace-then c.args.count i c.args.changes x (standing l t s) first s.status sts k n st cs here c.loop-number.invariant.came c.loop-number.invariant.traced z ds (had.goes l)
    (had.traces l) w c.in-Some._fault fails)

-- the statement is done, and the next one follows
pub loop-number-preserved : goal.loop-number-preserved
loop-number-preserved c =
    let i = c.args.session in
    let sts = c.args.statements.now in
    let k = c.loop-number.number in
    let n = c.loop-number.request in
    let l = c.loop-number.stage.store in
    let t = c.loop-number.stage.locks in
    let s = (member_at (staged_of c.loop-number.stage) i).state in
    let st = c.index-statements-number.result in
    let here : drop k sts ≡ st ∷ drop (k + 1) sts = drop-cons sts k st c.loop-number-test.true
    ∙ (λ j. sym c.index-statements-number.is j ∷ drop (sym (add-one k) j) sts) in
    let x = standing_at i (staged_of c.args.stage.now) in
    let first = tasks_from x.own.status (drop c.args.from.statement sts) c.args.from.request in
    let cs = c.loop-number.trace.changes in
    let ds = c.trace_asks.new.trace.changes in
    let u = c.trace_asks.new.locks in
    let had = had-at c.args.count i t s st n u cs c.trace_asks.new.trace c.status-status.result _ c.in-AllHad.is c.status-status.ensures
    (c.in_ok-trace_asks.ensures s (sym c.status-status.ensures)) in
    let z = standing l u s in
    let w = standing_at i (staged_of c.perform.new.stage) in
    let does = subst (Does i z st w) c.in_default.is c.in_ok-_fault.ensures.does in
    let stands = perform-behind (session_in i z) (session_in i w) z.layers.committed w.layers.committed st does.goes in
    let told : ds ++ did_changes (kind st) (slice i u.held) ≡ c.append-in-loop-number.new.self =
    ap (λ g. ds ++ g) (sym (c.did_changes.ensures (slice i u.held) c.in_ok-gone.ensures)) ∙ sym c.in_ok-append-2.ensures in
    record {
      came = done-then i x (standing l t s) first s.status sts k n st here c.loop-number.invariant.came z w (had.goes l)
          (goes-there i z w (in_status s.status st) (does-at i s.status z w st does)) stands;
      traced = subst (λ (es : List Change). TracesOn c.args.count i c.args.changes x first es w (tasks_from w.own.status (drop (k + 1) sts) 0)) told
          (done-trace-then c.args.count i c.args.changes x (standing l t s) first s.status sts k n st cs here c.loop-number.invariant.came c.loop-number.invariant.traced z ds
          (had.goes l) (had.traces l) w does stands);
      ready = next-to-go i l c.perform.new.stage.store t c.perform.new.stage.locks s.status w.own.status sts k n
          (same-trans i l l c.perform.new.stage.store t u c.perform.new.stage.locks (had.goes l []).others does.others) (does.waits
          ∙ (had.goes l []).waits) c.loop-number.invariant.ready;
      inside = subst (λ m. i < m) (sym c.in_ok-_fault.ensures.past) c.loop-number.invariant.inside;
      below = below-still c.args.count i l c.perform.new.stage.store u c.perform.new.stage.locks had.below c.requires.known does.others does.waits;
      whole = had.whole;
    }
