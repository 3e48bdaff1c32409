use Rattle.std.proofs.Common.{◌≡◌, drop}
use Rattle.session_steps.specs.Going.{tasks_from, GoesOnTo, IsToGo}
use Rattle.session_steps.specs.Stage.{member_at, others, standing_at}
use Rattle.session_steps.proofs.stepping.go_on.Given as goal

-- the statements so far are done
abbrev pub invariant-loop-number : goal.invariant-loop-number
invariant-loop-number g l = record {
  came : GoesOnTo l.session (standing_at l.session (g.S.Stage.staged l.initial.stage))
      (tasks_from (member_at (g.S.Stage.staged l.initial.stage) l.session).state.status (drop l.fn.from.statement l.statements) l.fn.from.request) (standing_at l.session (g.S.Stage.staged l.stage))
      (tasks_from (member_at (g.S.Stage.staged l.stage) l.session).state.status (drop l.number l.statements) l.request);
  ready : IsToGo l.session (g.S.Stage.staged l.stage).store (g.S.Stage.staged l.stage).locks
      (member_at (g.S.Stage.staged l.stage) l.session).state.status l.statements l.number l.request;
  others : others l.session (g.S.Stage.staged l.stage) ≡ others l.session (g.S.Stage.staged l.initial.stage);
  past : g.S.Stage.past l.stage ≡ g.S.Stage.past l.initial.stage;
}
