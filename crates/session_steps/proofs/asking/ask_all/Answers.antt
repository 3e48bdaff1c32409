use Rattle.std.proofs.Common.{sym, ap, ◌∙◌}
use Rattle.bound_statements.specs.Levels.{is_unlocked}
use Rattle.machine_model.specs.Go.{is_broken}
use Rattle.machine_model.specs.Session.{in_status}
use Rattle.session_steps.specs.Stage.{member_at}
use Rattle.session_steps.proofs.Requests.{nothing-asked}
use Rattle.session_steps.proofs.asking.ask_all.Goals as goal

-- a select that asks for no lock
pub returns-then-is_unlocked_in-clause-asked : goal.returns-then-is_unlocked_in-clause-asked
returns-then-is_unlocked_in-clause-asked g c =
    nothing-asked c.args.session (g.S.Stage.staged c.args.stage.now).locks (member_at (g.S.Stage.staged c.args.stage.now) c.args.session).state
    (in_status (member_at (g.S.Stage.staged c.args.stage.now) c.args.session).state.status c.args.statement.now) c.args.first
    (ap (λ b. is_unlocked (in_status b c.args.statement.now)) (sym c.status-status.ensures) ∙ sym c.if-is_unlocked_in.ensures)

pub returns-then-is_broken-clause-asked : goal.returns-then-is_broken-clause-asked
returns-then-is_broken-clause-asked g c =
    c.ask_broken.ensures c.args.session (g.S.Stage.staged c.args.stage.now).locks (member_at (g.S.Stage.staged c.args.stage.now) c.args.session).state
    (ap is_broken (sym c.status-status.ensures) ∙ sym c.if-is_broken.ensures)
    (ap (λ b. is_unlocked (in_status b c.args.statement.now)) (sym c.status-status.ensures) ∙ sym c.if-is_unlocked_in.ensures) c.requires.ready
