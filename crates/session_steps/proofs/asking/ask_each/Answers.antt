use Rattle.std.proofs.lemmas.List.{drop_all}
use Rattle.std.proofs.Common.{◌≡◌, ◌+◌, ◌≤◌, None, sym, ap, ◌∙◌, subst, drop, [], true, length, arith}
use Rattle.machine_model.specs.declared.reply.Reply.TheVariants.{Had, Waits, Refused}
use Rattle.std.specs.List.{slice_get}
use Rattle.bound_statements.specs.Levels.{asked}
use Rattle.bound_statements.specs.Plan.{plan, nowait}
use Rattle.lock_queues.specs.LockTable.{Locks, queued}
use Rattle.row_tables.specs.Layers.{no_rows}
use Rattle.machine_model.specs.Session.{asks, in_status}
use Rattle.session_steps.specs.Acting.{locked}
use Rattle.session_steps.specs.Going.{Standing, standing, failed_in, waits_at, AsksOne, GoesOnTo, StopsIn, IsToAsk, WaitsIf, after_reply, Replied}
use Rattle.session_steps.specs.Stage.{member_at}
use Rattle.session_steps.proofs.Moves.{goes-on-on, goes-on-stops, had, waits-there, is-refused}
use Rattle.session_steps.proofs.Waiting.{queued-waits, waits-from}
use Rattle.session_steps.proofs.Requests.{plan-ends, plan-next, next-to-ask, all-asked, asked-plan, RepliedAs, replied-as}
use Rattle.session_steps.proofs.asking.ask_each.Goals as goal

-- the request is had, and the others follow
pub loop-number-preserved : goal.loop-number-preserved
loop-number-preserved g c =
    let i = c.args.session in
    let s = (member_at (g.S.Stage.staged c.args.stage.now) i).state in
    let st = c.args.statement.now in
    let q = in_status s.status st in
    let t0 = (g.S.Stage.staged c.args.stage.now).locks in
    let t = (g.S.Stage.staged c.loop-number.stage).locks in
    let now = (g.S.Stage.staged c.ask.new.self).locks in
    let n = c.loop-number.number in
    let reply : RepliedAs i t q n now Had = replied-as i t s.status st n now Had c.requires.locked (subst (Replied i t st n now) c.in-Had.is (subst (AsksOne i t st n now) c.in-Some.is c.in_ok-reply.ensures.asked)) in
    let r = reply.request.resource in
    let m = reply.request.mode in
    let here = plan-next (asked q) n reply.request reply.here in
    record {
      had = λ l ts.
          let rest = asks (nowait q) (drop (n + 1) (asked q)) ts in
          let first = asks (nowait q) (drop c.args.first (asked q)) ts in
          let one = subst (λ qs. GoesOnTo i (standing l t s) (asks (nowait q) qs ts) (standing l (after_reply t i r m Had) s) rest) (sym here)
          (had i (standing l t s) r m (nowait q) rest c.requires.whole reply.gets) in
          subst (λ u. GoesOnTo i (standing l t0 s) first (standing l u s) rest) (sym reply.changed)
          (goes-on-on i (standing l t0 s) (standing l t s) (standing l (after_reply t i r m Had) s) first (asks (nowait q) (drop n (asked q)) ts) rest
          (c.loop-number.invariant.had l ts) one);
      ready = subst (λ u. IsToAsk i u q (n + 1)) (sym reply.changed) (next-to-ask i t q n reply.request reply.here c.loop-number.invariant.ready);
      locks = c.in_ok-reply.ensures.locks ∙ ap (λ (x : Standing). locked x now) c.loop-number.invariant.locks;
      others = c.in_ok-reply.ensures.others ∙ c.loop-number.invariant.others;
      past = c.in_ok-reply.ensures.past ∙ c.loop-number.invariant.past;
    }

-- no request is left
pub returns-in_default-clause-asked : goal.returns-in_default-clause-asked
returns-in_default-clause-asked g c =
    let i = c.args.session in
    let s = (member_at (g.S.Stage.staged c.args.stage.now) i).state in
    let st = c.args.statement.now in
    let q = in_status s.status st in
    let t0 = (g.S.Stage.staged c.args.stage.now).locks in
    let t = (g.S.Stage.staged c.loop-number.stage).locks in
    let u = (g.S.Stage.staged c.ask.new.self).locks in
    let n = c.loop-number.number in
    let replied = subst (AsksOne i t st n u) c.in_default.is c.in_ok-reply.ensures.asked in
    let none = plan-ends (asked q) n (subst (λ qs. slice_get qs n ≡ None) (sym (asked-plan s.status st c.requires.locked)) replied.0) in
    record {
      asks = λ l ts. subst (λ v. GoesOnTo i (standing l t0 s) (asks (nowait q) (drop c.args.first (asked q)) ts) (standing l v s) ts) (sym replied.1)
          (subst (λ qs. GoesOnTo i (standing l t0 s) (asks (nowait q) (drop c.args.first (asked q)) ts) (standing l t s) (asks (nowait q) qs ts)) none
          (c.loop-number.invariant.had l ts));
      queues = ap (λ (v : Locks). v.waits) replied.1 ∙ (c.loop-number.invariant.had no_rows []).waits;
      holds = all-asked i u q n none (subst (λ v. IsToAsk i v q n) (sym replied.1) c.loop-number.invariant.ready);
    }

pub returns-clause-asked : goal.returns-clause-asked
returns-clause-asked g c =
    let i = c.args.session in
    let s = (member_at (g.S.Stage.staged c.args.stage.now) i).state in
    let st = c.args.statement.now in
    let q = in_status s.status st in
    let t0 = (g.S.Stage.staged c.args.stage.now).locks in
    let t = (g.S.Stage.staged c.loop-number.stage).locks in
    let n = c.loop-number.number in
    let end : length (asked q) ≤ n =
    subst (λ qs. length qs ≤ n) (sym (asked-plan s.status st c.requires.locked)) (let e : length (plan st) ≤ n = omega (arith, c.requires.short, c.loop-number-test.false) in e) in
    let none = drop_all n (asked q) end in
    record {
      asks = λ l ts. subst (λ qs. GoesOnTo i (standing l t0 s) (asks (nowait q) (drop c.args.first (asked q)) ts) (standing l t s) (asks (nowait q) qs ts)) none
          (c.loop-number.invariant.had l ts);
      queues = (c.loop-number.invariant.had no_rows []).waits;
      holds = all-asked i t q n none c.loop-number.invariant.ready;
    }

-- the request waits
pub returns-in-Waits-clause-asked : goal.returns-in-Waits-clause-asked
returns-in-Waits-clause-asked g c =
    let i = c.args.session in
    let s = (member_at (g.S.Stage.staged c.args.stage.now) i).state in
    let st = c.args.statement.now in
    let q = in_status s.status st in
    let t0 = (g.S.Stage.staged c.args.stage.now).locks in
    let t = (g.S.Stage.staged c.loop-number.stage).locks in
    let now = (g.S.Stage.staged c.ask.new.self).locks in
    let n = c.loop-number.number in
    let reply : RepliedAs i t q n now Waits = replied-as i t s.status st n now Waits c.requires.locked (subst (Replied i t st n now) c.in-Waits.is (subst (AsksOne i t st n now) c.in-Some.is c.in_ok-reply.ensures.asked)) in
    let r = reply.request.resource in
    let m = reply.request.mode in
    let here = plan-next (asked q) n reply.request reply.here in
    record {
      asks = λ l ts.
          let rest = asks (nowait q) (drop (n + 1) (asked q)) ts in
          let first = asks (nowait q) (drop c.args.first (asked q)) ts in
          let x = standing l t s in
          let stop = subst (λ qs. StopsIn i x (asks (nowait q) qs ts) (waits_at l (after_reply t i r m Waits) s q n ts)) (sym here)
          (waits-there i x r m (nowait q) rest c.requires.whole reply.gets) in
          subst (λ u. StopsIn i (standing l t0 s) first (waits_at l u s q n ts)) (sym reply.changed)
          (goes-on-stops i (standing l t0 s) x (waits_at l (after_reply t i r m Waits) s q n ts) first (asks (nowait q) (drop n (asked q)) ts)
          (c.loop-number.invariant.had l ts) stop);
      queues = (
        c.loop-number-test.true,
        subst (λ u. WaitsIf i t0 u true) (sym reply.changed)
            (waits-from i t0 t (queued t i r m) true (c.loop-number.invariant.had no_rows []).waits (queued-waits t i r m)),
      );
      holds = tt;
    }

-- the request is refused
pub returns-in-Refused-clause-asked : goal.returns-in-Refused-clause-asked
returns-in-Refused-clause-asked g c =
    let i = c.args.session in
    let s = (member_at (g.S.Stage.staged c.args.stage.now) i).state in
    let st = c.args.statement.now in
    let q = in_status s.status st in
    let t0 = (g.S.Stage.staged c.args.stage.now).locks in
    let t = (g.S.Stage.staged c.loop-number.stage).locks in
    let now = (g.S.Stage.staged c.ask.new.self).locks in
    let n = c.loop-number.number in
    let f = c.in-Refused.fault in
    let reply : RepliedAs i t q n now (Refused f) = replied-as i t s.status st n now (Refused f) c.requires.locked (
    subst (Replied i t st n now) c.in-Refused.is (subst (AsksOne i t st n now) c.in-Some.is c.in_ok-reply.ensures.asked)) in
    let r = reply.request.resource in
    let m = reply.request.mode in
    let here = plan-next (asked q) n reply.request reply.here in
    record {
      asks = λ l ts.
          let rest = asks (nowait q) (drop (n + 1) (asked q)) ts in
          let first = asks (nowait q) (drop c.args.first (asked q)) ts in
          let x = standing l t s in
          let stop = subst (λ qs. StopsIn i x (asks (nowait q) qs ts) (failed_in i x f)) (sym here)
          (is-refused i x r m (nowait q) rest f c.requires.whole c.loop-number.invariant.ready.idle reply.gets) in
          subst (λ u. StopsIn i (standing l t0 s) first (failed_in i (standing l u s) f)) (sym reply.changed)
          (goes-on-stops i (standing l t0 s) x (failed_in i x f) first (asks (nowait q) (drop n (asked q)) ts) (c.loop-number.invariant.had l ts) stop);
      queues = ap (λ (u : Locks). u.waits) reply.changed ∙ (c.loop-number.invariant.had no_rows []).waits;
      holds = tt;
    }
