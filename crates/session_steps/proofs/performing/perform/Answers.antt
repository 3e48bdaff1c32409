use Rattle.std.proofs.Common.{sym, ap, subst}
use Rattle.machine_model.specs.Session.{kind}
use Rattle.session_steps.specs.Going.{DoesTo}
use Rattle.session_steps.specs.Stage.{member_at, standing_at}
use Rattle.session_steps.proofs.Moves.{commits-there, rolls-back-there}
use Rattle.session_steps.proofs.performing.perform.Goals as goal

pub returns-in_ok-commit-in-Commit-clause-does : goal.returns-in_ok-commit-in-Commit-clause-does
returns-in_ok-commit-in-Commit-clause-does g c =
    let i = c.args.session in
    let x = g.S.Stage.staged c.args.stage.now in
    subst (DoesTo i (standing_at i x) c.args.statement.now) (sym c.in_ok-commit-in-Commit.ensures.commits)
    (commits-there i x.store x.locks (member_at x i).state c.args.statement.now (ap kind c.in-Commit.is) c.requires.idle)

pub returns-in_ok-roll_back-in-Rollback-clause-does : goal.returns-in_ok-roll_back-in-Rollback-clause-does
returns-in_ok-roll_back-in-Rollback-clause-does g c =
    let i = c.args.session in
    let x = g.S.Stage.staged c.args.stage.now in
    subst (DoesTo i (standing_at i x) c.args.statement.now) (sym c.in_ok-roll_back-in-Rollback.ensures.rolls_back)
    (rolls-back-there i x.store x.locks (member_at x i).state c.args.statement.now (ap kind c.in-Rollback.is) c.requires.idle)
