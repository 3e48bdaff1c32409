use Rattle.std.proofs.Common.{◌≡◌, sym, ◌∙◌, length, true, false}
use Rattle.std.specs.List.{list_all}
use Rattle.lock_queues.specs.Locks.{fits}
use Rattle.bound_statements.specs.Plan.{Request, plan}
use Rattle.machine_model.specs.World.{look_of}
use Rattle.step_reducer.proofs.Asked.{all-true, all-false, all-end}
use Rattle.step_reducer.proofs.pairs.all_fit.Goals as goal

pub loop-statement-preserved : goal.loop-statement-preserved
loop-statement-preserved c =
    let yes : list_all (λ (q : Request). fits (length c.args.world.now.world.sessions) (look_of c.args.world.now.world) c.args.session q.resource q.mode)
    (plan c.statement-item.result) ≡ true = sym c.statement_fits.ensures ∙ c.if-not-statement_fits.false in
    all-true (λ (q : Request). fits (length c.args.world.now.world.sessions) (look_of c.args.world.now.world) c.args.session q.resource q.mode)
    c.args.statements.now c.loop-statement.statement-index c.statement-item.result c.loop-statement-test.true c.statement-item.is yes
    c.loop-statement.invariant

pub returns-then-not-statement_fits : goal.returns-then-not-statement_fits
returns-then-not-statement_fits c =
    let no : list_all (λ (q : Request). fits (length c.args.world.now.world.sessions) (look_of c.args.world.now.world) c.args.session q.resource q.mode)
    (plan c.statement-item.result) ≡ false = sym c.statement_fits.ensures ∙ c.if-not-statement_fits.true in
    all-false (λ (q : Request). fits (length c.args.world.now.world.sessions) (look_of c.args.world.now.world) c.args.session q.resource q.mode)
    c.args.statements.now c.loop-statement.statement-index c.statement-item.result c.loop-statement-test.true c.statement-item.is no
    c.loop-statement.invariant

pub returns : goal.returns
returns c = all-end (λ (q : Request). fits (length c.args.world.now.world.sessions) (look_of c.args.world.now.world) c.args.session q.resource q.mode)
    c.args.statements.now c.loop-statement.statement-index c.loop-statement-test.false c.loop-statement.invariant
