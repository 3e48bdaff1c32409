use Rattle.std.proofs.Common.{◌≡◌, drop, List}
use Rattle.row_tables.specs.Layers.{Layers}
use Rattle.bound_statements.specs.Levels.{asked}
use Rattle.bound_statements.specs.Plan.{nowait}
use Rattle.machine_model.specs.Session.{Task, asks, in_status}
use Rattle.session_steps.specs.Acting.{locked}
use Rattle.session_steps.specs.Going.{standing, IsToAsk, GoesOnTo}
use Rattle.session_steps.specs.Stage.{member_at, others, standing_at}
use Rattle.session_steps.proofs.asking.ask_each.Given as goal

-- the requests so far are had
abbrev pub invariant-loop-number : goal.invariant-loop-number
invariant-loop-number g l = record {
  had : (layers : Layers) (ts : List Task) → GoesOnTo l.session
      (standing layers (g.S.Stage.staged l.initial.stage).locks (member_at (g.S.Stage.staged l.initial.stage) l.session).state)
      (asks (nowait (in_status (member_at (g.S.Stage.staged l.initial.stage) l.session).state.status l.statement)) (drop l.first (asked (in_status (member_at (g.S.Stage.staged l.initial.stage) l.session).state.status l.statement))) ts)
      (standing layers (g.S.Stage.staged l.stage).locks (member_at (g.S.Stage.staged l.initial.stage) l.session).state)
      (asks (nowait (in_status (member_at (g.S.Stage.staged l.initial.stage) l.session).state.status l.statement)) (drop l.number (asked (in_status (member_at (g.S.Stage.staged l.initial.stage) l.session).state.status l.statement))) ts);
  ready : IsToAsk l.session (g.S.Stage.staged l.stage).locks (in_status (member_at (g.S.Stage.staged l.initial.stage) l.session).state.status l.statement) l.number;
  locks : standing_at l.session (g.S.Stage.staged l.stage)
      ≡ locked (standing_at l.session (g.S.Stage.staged l.initial.stage)) (g.S.Stage.staged l.stage).locks;
  others : others l.session (g.S.Stage.staged l.stage) ≡ others l.session (g.S.Stage.staged l.initial.stage);
  past : g.S.Stage.past l.stage ≡ g.S.Stage.past l.initial.stage;
}
