use Rattle.std.proofs.lemmas.List.{drop_all}
use Rattle.std.proofs.Common.{◌≡◌, ◌+◌, sym, ap, ◌∙◌, subst, List, drop, [], ◌∷◌, ◌++◌, drop-cons, add-one}
use Rattle.lock_queues.specs.Locks.{waits_now}
use Rattle.events.specs.declared.event.Event.TheVariants.{Waiting}
use Rattle.machine_model.specs.Session.{Task, in_status}
use Rattle.machine_model.proofs.Levels.{perform-behind}
use Rattle.statement_execution.specs.Run.{MayLook}
use Rattle.session_steps.specs.declared.asking.Asked.TheVariants.{Had, Waits, Refused}
use Rattle.session_steps.specs.Going.{Standing, session_in, standing, tasks_from, told, GoesOnTo, StopsIn, HasAsked, Does, DoesTo, FailsBy, failed_in, finished_in}
use Rattle.session_steps.specs.Stage.{member_at, standing_at}
use Rattle.session_steps.proofs.Moves.{goes-on-stops, goes-there, fails-there, ends-there}
use Rattle.session_steps.proofs.Waiting.{still-waits, finished-waits}
use Rattle.session_steps.proofs.States.{same-trans, waits-let_go}
use Rattle.session_steps.proofs.Steps.{to-ask, still-under, next-to-go, does-at, fails-at, may-look, done-then, fails-then, refused-then, waits-then}
use Rattle.session_steps.proofs.stepping.go_on.Goals as goal

pub ask_all-requires-clause-ready : goal.ask_all-requires-clause-ready
ask_all-requires-clause-ready g c =
    let i = c.args.session in
    let sts = c.args.statements.now in
    let k = c.loop-number.number in
    let v = g.S.Stage.staged c.loop-number.stage in
    let st = c.index-statements-number.result in
    let here : drop k sts ≡ st ∷ drop (k + 1) sts = drop-cons sts k st c.loop-number-test.true
    ∙ (λ j. sym c.index-statements-number.is j ∷ drop (sym (add-one k) j) sts) in
    to-ask i v.store v.locks (member_at v i).state.status sts k c.loop-number.request st here c.loop-number.invariant.ready

-- the session holds what the statement asks for, and the others write under their locks
pub perform-requires-clause-alone : goal.perform-requires-clause-alone
perform-requires-clause-alone g c =
    let i = c.args.session in
    let n = c.loop-number.request in
    let v = g.S.Stage.staged c.loop-number.stage in
    let l = v.store in
    let t = v.locks in
    let s = (member_at v i).state in
    let st = c.index-statements-number.result in
    let q = in_status s.status st in
    let u = (g.S.Stage.staged c.ask_all.new.stage).locks in
    let had : HasAsked i t s q n u Had = subst (HasAsked i t s q n u) c.in-Had.is c.in_ok-ask_all.ensures.asked in
    subst (MayLook i st) (sym (ap (λ (x : Standing). x.layers) c.in_ok-ask_all.ensures.locks))
    (may-look i s.status st l u c.sound.ensures.together (still-under i l l t u (had.asks l []).others c.loop-number.invariant.ready.under) had.holds)

-- the statement is done, and the next one follows
pub loop-number-preserved : goal.loop-number-preserved
loop-number-preserved g c =
    let i = c.args.session in
    let sts = c.args.statements.now in
    let k = c.loop-number.number in
    let n = c.loop-number.request in
    let v = g.S.Stage.staged c.loop-number.stage in
    let l = v.store in
    let t = v.locks in
    let s = (member_at v i).state in
    let st = c.index-statements-number.result in
    let q = in_status s.status st in
    let here : drop k sts ≡ st ∷ drop (k + 1) sts = drop-cons sts k st c.loop-number-test.true
    ∙ (λ j. sym c.index-statements-number.is j ∷ drop (sym (add-one k) j) sts) in
    let x = standing_at i (g.S.Stage.staged c.args.stage.now) in
    let first = tasks_from x.own.status (drop c.args.from.statement sts) c.args.from.request in
    let u = (g.S.Stage.staged c.ask_all.new.stage).locks in
    let had : HasAsked i t s q n u Had = subst (HasAsked i t s q n u) c.in-Had.is c.in_ok-ask_all.ensures.asked in
    let z = standing l u s in
    let after = g.S.Stage.staged c.perform.new.stage in
    let w = standing_at i after in
    let does : DoesTo i z st w = subst (λ y. DoesTo i y st w) c.in_ok-ask_all.ensures.locks
    (subst (Does i (standing_at i (g.S.Stage.staged c.ask_all.new.stage)) st w) c.in_default.is c.in_ok-fault.ensures.does) in
    record {
      came = done-then i x (standing l t s) first s.status sts k n st here c.loop-number.invariant.came z w (had.asks l)
          (goes-there i z w q (does-at i s.status z w st does))
          (perform-behind (session_in i z) (session_in i w) z.layers.committed w.layers.committed st does.goes);
      ready = next-to-go i l after.store t after.locks s.status w.own.status sts k n (same-trans i l l after.store t u after.locks (had.asks l []).others does.others)
          (does.waits ∙ (had.asks l []).waits) c.loop-number.invariant.ready;
      others = c.in_ok-fault.ensures.others ∙ c.in_ok-ask_all.ensures.others ∙ c.loop-number.invariant.others;
      past = c.in_ok-fault.ensures.past ∙ c.in_ok-ask_all.ensures.past ∙ c.loop-number.invariant.past;
    }

-- the statement fails
pub returns-in-Some-clause-goes : goal.returns-in-Some-clause-goes
returns-in-Some-clause-goes g c =
    let i = c.args.session in
    let sts = c.args.statements.now in
    let k = c.loop-number.number in
    let n = c.loop-number.request in
    let v = g.S.Stage.staged c.loop-number.stage in
    let l = v.store in
    let t = v.locks in
    let s = (member_at v i).state in
    let st = c.index-statements-number.result in
    let q = in_status s.status st in
    let here : drop k sts ≡ st ∷ drop (k + 1) sts = drop-cons sts k st c.loop-number-test.true
    ∙ (λ j. sym c.index-statements-number.is j ∷ drop (sym (add-one k) j) sts) in
    let x = standing_at i (g.S.Stage.staged c.args.stage.now) in
    let first = tasks_from x.own.status (drop c.args.from.statement sts) c.args.from.request in
    let u = (g.S.Stage.staged c.ask_all.new.stage).locks in
    let had : HasAsked i t s q n u Had = subst (HasAsked i t s q n u) c.in-Had.is c.in_ok-ask_all.ensures.asked in
    let z = standing l u s in
    let w = standing_at i (g.S.Stage.staged c.perform.new.stage) in
    let fails : FailsBy i z st c.in-Some.fault w = subst (λ y. FailsBy i y st c.in-Some.fault w) c.in_ok-ask_all.ensures.locks
    (subst (Does i (standing_at i (g.S.Stage.staged c.ask_all.new.stage)) st w) c.in-Some.is c.in_ok-fault.ensures.does) in
    let idle = ap (λ ws. waits_now ws i) (had.asks l []).waits ∙ c.loop-number.invariant.ready.idle in
    subst (StopsIn i x first) (sym c.in_ok-fail.ensures.failed) (fails-then i x (standing l t s) first s.status sts k n st here c.loop-number.invariant.came z _ (had.asks l)
    (fails-there i z w q c.in-Some.fault idle (fails-at i s.status z w st c.in-Some.fault fails)))

-- a request is refused
pub returns-in-Refused-clause-goes : goal.returns-in-Refused-clause-goes
returns-in-Refused-clause-goes g c =
    let i = c.args.session in
    let sts = c.args.statements.now in
    let k = c.loop-number.number in
    let n = c.loop-number.request in
    let v = g.S.Stage.staged c.loop-number.stage in
    let l = v.store in
    let t = v.locks in
    let s = (member_at v i).state in
    let st = c.index-statements-number.result in
    let q = in_status s.status st in
    let here : drop k sts ≡ st ∷ drop (k + 1) sts = drop-cons sts k st c.loop-number-test.true
    ∙ (λ j. sym c.index-statements-number.is j ∷ drop (sym (add-one k) j) sts) in
    let x = standing_at i (g.S.Stage.staged c.args.stage.now) in
    let first = tasks_from x.own.status (drop c.args.from.statement sts) c.args.from.request in
    let u = (g.S.Stage.staged c.ask_all.new.stage).locks in
    let f = c.in-Refused.fault in
    let refused : HasAsked i t s q n u (Refused f) = subst (HasAsked i t s q n u) c.in-Refused.is c.in_ok-ask_all.ensures.asked in
    subst (StopsIn i x first) (sym (c.in_ok-fail-in-Refused.ensures.failed ∙ ap (λ y. failed_in i y f) c.in_ok-ask_all.ensures.locks))
    (refused-then i x (standing l t s) first s.status sts k n st here c.loop-number.invariant.came (failed_in i (standing l u s) f) (refused.asks l))

-- a request waits
pub returns-in-Waits-clause-goes : goal.returns-in-Waits-clause-goes
returns-in-Waits-clause-goes g c =
    let i = c.args.session in
    let sts = c.args.statements.now in
    let k = c.loop-number.number in
    let n = c.loop-number.request in
    let v = g.S.Stage.staged c.loop-number.stage in
    let l = v.store in
    let t = v.locks in
    let s = (member_at v i).state in
    let st = c.index-statements-number.result in
    let q = in_status s.status st in
    let here : drop k sts ≡ st ∷ drop (k + 1) sts = drop-cons sts k st c.loop-number-test.true
    ∙ (λ j. sym c.index-statements-number.is j ∷ drop (sym (add-one k) j) sts) in
    let x = standing_at i (g.S.Stage.staged c.args.stage.now) in
    let first = tasks_from x.own.status (drop c.args.from.statement sts) c.args.from.request in
    let u = (g.S.Stage.staged c.ask_all.new.stage).locks in
    let waits : HasAsked i t s q n u (Waits c.in-Waits.request) = subst (HasAsked i t s q n u) c.in-Waits.is c.in_ok-ask_all.ensures.asked in
    let there : List Task → Standing = λ rest. record {
      layers = l;
      locks = u;
      own = record { status = s.status; rest = rest; transcript = s.transcript ++ Waiting ∷ [] };
    } in
    let stopped : Standing → Standing = λ y. record {
      layers = y.layers;
      locks = y.locks;
      own = record { status = y.own.status; rest = tasks_from y.own.status (drop k sts) (c.in-Waits.request + 1); transcript = y.own.transcript };
    } in
    subst (λ y. StopsIn i x first (stopped y)) (sym (c.in_ok-tell-in-Waits.ensures.told ∙ ap (λ y. told y Waiting) c.in_ok-ask_all.ensures.locks))
    (waits-then i x (standing l t s) first s.status sts k n st here c.loop-number.invariant.came there c.in-Waits.request (waits.asks l))

-- the step ends
pub returns-clause-goes : goal.returns-clause-goes
returns-clause-goes g c =
    let i = c.args.session in
    let sts = c.args.statements.now in
    let k = c.loop-number.number in
    let y = standing_at i (g.S.Stage.staged c.loop-number.stage) in
    let x = standing_at i (g.S.Stage.staged c.args.stage.now) in
    let first = tasks_from x.own.status (drop c.args.from.statement sts) c.args.from.request in
    let came = subst (λ ss. GoesOnTo i x first y (tasks_from y.own.status ss c.loop-number.request)) (drop_all k sts c.loop-number-test.false) c.loop-number.invariant.came
    in
    subst (StopsIn i x first) (sym c.in_ok-finish.ensures.finished) (goes-on-stops i x y (finished_in i y) first [] came
    (ends-there i y c.loop-number.invariant.ready.idle))

-- ---- who waits

pub returns-in-Some-clause-waits : goal.returns-in-Some-clause-waits
returns-in-Some-clause-waits g c =
    let i = c.args.session in
    let n = c.loop-number.request in
    let v = g.S.Stage.staged c.loop-number.stage in
    let t = v.locks in
    let s = (member_at v i).state in
    let st = c.index-statements-number.result in
    let q = in_status s.status st in
    let t0 = (g.S.Stage.staged c.args.stage.now).locks in
    let idle = c.requires.ready.idle in
    let asked = g.S.Stage.staged c.ask_all.new.stage in
    let u = asked.locks in
    let had : HasAsked i t s q n u Had = subst (HasAsked i t s q n u) c.in-Had.is c.in_ok-ask_all.ensures.asked in
    let w = standing_at i (g.S.Stage.staged c.perform.new.stage) in
    let fails : FailsBy i (standing_at i asked) st c.in-Some.fault w =
    subst (Does i (standing_at i asked) st w) c.in-Some.is c.in_ok-fault.ensures.does in
    let same : w.locks.waits ≡ t0.waits = ap (λ (q : Standing). q.locks.waits) fails.same ∙ had.queues ∙ c.loop-number.invariant.came.waits in
    still-waits i t0 (g.S.Stage.staged c.fail-in-Some.new.stage).locks
    (ap (λ (q : Standing). q.locks.waits) c.in_ok-fail.ensures.failed ∙ waits-let_go w.locks i (ap (λ ws. waits_now ws i) same ∙ idle) ∙ same) idle

pub returns-in-Refused-clause-waits : goal.returns-in-Refused-clause-waits
returns-in-Refused-clause-waits g c =
    let i = c.args.session in
    let n = c.loop-number.request in
    let v = g.S.Stage.staged c.loop-number.stage in
    let t = v.locks in
    let s = (member_at v i).state in
    let st = c.index-statements-number.result in
    let q = in_status s.status st in
    let t0 = (g.S.Stage.staged c.args.stage.now).locks in
    let idle = c.requires.ready.idle in
    let u = (g.S.Stage.staged c.ask_all.new.stage).locks in
    let refused : HasAsked i t s q n u (Refused c.in-Refused.fault) = subst (HasAsked i t s q n u) c.in-Refused.is c.in_ok-ask_all.ensures.asked in
    let same : u.waits ≡ t0.waits = refused.queues ∙ c.loop-number.invariant.came.waits in
    still-waits i t0 (g.S.Stage.staged c.fail.new.stage).locks
    (ap (λ (q : Standing). q.locks.waits) c.in_ok-fail-in-Refused.ensures.failed ∙ waits-let_go u i (ap (λ ws. waits_now ws i) same ∙ idle) ∙ same) idle

pub returns-clause-waits : goal.returns-clause-waits
returns-clause-waits g c =
    let i = c.args.session in
    let y = standing_at i (g.S.Stage.staged c.loop-number.stage) in
    still-waits i (g.S.Stage.staged c.args.stage.now).locks (g.S.Stage.staged c.finish.new.stage).locks
    (ap (λ (q : Standing). q.locks.waits) c.in_ok-finish.ensures.finished ∙ finished-waits i y c.loop-number.invariant.ready.idle
    ∙ c.loop-number.invariant.came.waits) c.requires.ready.idle
