use Rattle.std.proofs.Common.{◌≡◌, ◌+◌, Some, None, sym, subst, drop, refl}
use Rattle.lock_modes.specs.Resource.{resource_at}
use Rattle.std.specs.List.{slice_get}
use Rattle.bound_statements.specs.Levels.{asked}
use Rattle.bound_statements.specs.Plan.{request, nowait}
use Rattle.events.specs.declared.event.Fault.TheVariants.{Aborted}
use Rattle.machine_model.specs.Session.{asks, in_status}
use Rattle.session_steps.specs.Going.{standing, failed_in, GoesOnTo, StopsIn}
use Rattle.session_steps.proofs.Moves.{goes-on-here, asks-broken}
use Rattle.session_steps.proofs.Requests.{plan-ends, plan-next, all-asked, asked-plan}
use Rattle.session_steps.proofs.asking.ask_broken.Goals as goal

-- no request is left
pub returns-in-None : goal.returns-in-None
returns-in-None c = λ i t s broken locked ready.
    let st = c.args.statement.now in
    let q = in_status s.status st in
    let none = plan-ends (asked q) c.args.first (subst (λ qs. slice_get qs c.args.first ≡ None) (sym (asked-plan s.status st locked)) (sym c.in-None.ensures)) in
    record {
      asks = λ l ts. subst (λ qs. GoesOnTo i (standing l t s) (asks (nowait q) qs ts) (standing l t s) ts) (sym none) (goes-on-here i (standing l t s) ts);
      queues = refl;
      holds = all-asked i t q c.args.first none ready;
    }

-- a failed block takes no request
pub returns-in-Some : goal.returns-in-Some
returns-in-Some c = λ i t s broken locked ready.
    let st = c.args.statement.now in
    let q = in_status s.status st in
    let n = c.args.first in
    let r = resource_at c.in-Some.field-0.0 in
    let m = c.in-Some.field-0.1 in
    let here = plan-next (asked q) n (request r m) (subst (λ qs. slice_get qs n ≡ Some (request r m)) (sym (asked-plan s.status st locked)) (sym c.in-Some.ensures)) in
    record {
      asks = λ l ts. subst (λ qs. StopsIn i (standing l t s) (asks (nowait q) qs ts) (failed_in i (standing l t s) Aborted)) (sym here)
          (asks-broken i (standing l t s) r m (nowait q) (asks (nowait q) (drop (n + 1) (asked q)) ts) broken ready.idle);
      queues = refl;
      holds = tt;
    }
