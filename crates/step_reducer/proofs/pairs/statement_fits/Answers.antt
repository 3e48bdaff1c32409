use Rattle.std.proofs.Common.{◌≡◌, sym, ◌∙◌, length, arith, true, false}
use Rattle.lock_modes.specs.Resource.{resource_at}
use Rattle.lock_queues.specs.Locks.{fits}
use Rattle.bound_statements.specs.Plan.{Request, request, plan}
use Rattle.machine_model.specs.World.{look_of}
use Rattle.step_reducer.proofs.Asked.{on-true, on-false, on-none, on-end}
use Rattle.step_reducer.proofs.pairs.statement_fits.Goals as goal

pub returns-in_default : goal.returns-in_default
returns-in_default c = on-none (λ (q : Request). fits (length c.args.world.now.world.sessions) (look_of c.args.world.now.world)
    c.args.session q.resource q.mode) (plan c.args.statement.now) c.loop-number.number (sym c.in_default.ensures) c.loop-number.invariant

pub returns-then-not-fits : goal.returns-then-not-fits
returns-then-not-fits c =
    let no : (λ (q : Request). fits (length c.args.world.now.world.sessions) (look_of c.args.world.now.world) c.args.session q.resource q.mode)
    (request (resource_at c.in-Some.place) c.in-Some.mode) ≡ false = sym c.fits.ensures ∙ c.if-not-fits.true in
    on-false (λ (q : Request). fits (length c.args.world.now.world.sessions) (look_of c.args.world.now.world) c.args.session q.resource q.mode)
    (plan c.args.statement.now) c.loop-number.number (request (resource_at c.in-Some.place) c.in-Some.mode)
    (sym c.in-Some.ensures) no c.loop-number.invariant

pub returns : goal.returns
returns c = on-end (λ (q : Request). fits (length c.args.world.now.world.sessions) (look_of c.args.world.now.world) c.args.session q.resource q.mode)
    (plan c.args.statement.now) c.loop-number.number (omega (arith, c.requires.short, c.loop-number-test.false)) c.loop-number.invariant

pub loop-number-preserved : goal.loop-number-preserved
loop-number-preserved c =
    let yes : (λ (q : Request). fits (length c.args.world.now.world.sessions) (look_of c.args.world.now.world) c.args.session q.resource q.mode)
    (request (resource_at c.in-Some.place) c.in-Some.mode) ≡ true = sym c.fits.ensures ∙ c.if-not-fits.false in
    on-true (λ (q : Request). fits (length c.args.world.now.world.sessions) (look_of c.args.world.now.world) c.args.session q.resource q.mode)
    (plan c.args.statement.now) c.loop-number.number (request (resource_at c.in-Some.place) c.in-Some.mode)
    (sym c.in-Some.ensures) yes c.loop-number.invariant
