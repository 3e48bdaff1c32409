use Rattle.std.proofs.Common.{◌≡◌, drop, List, None}
use Rattle.row_tables.specs.Layers.{Layers}
use Rattle.bound_statements.specs.Levels.{asked}
use Rattle.bound_statements.specs.Plan.{nowait}
use Rattle.lock_queues.specs.Laws.{IsBelow}
use Rattle.machine_model.specs.Session.{Task, asks, in_status}
use Rattle.session_steps.specs.State.{SessionState}
use Rattle.session_steps.specs.Going.{standing, IsToAsk, GoesOnTo}
use Rattle.session_machine.specs.Tracing.{TracesOn}
use Rattle.session_machine.proofs.trace.trace_each.Given as goal

-- the requests so far are had
abbrev pub invariant-loop-number : goal.invariant-loop-number
invariant-loop-number l = record {
  goes : (s : SessionState) → s.status ≡ l.status → (layers : Layers) (ts : List Task) → GoesOnTo l.session (standing layers l.initial.locks s) (asks (nowait (in_status l.status l.statement)) (drop l.first (asked (in_status l.status l.statement))) ts)
      (standing layers l.locks s) (asks (nowait (in_status l.status l.statement)) (drop l.number (asked (in_status l.status l.statement))) ts);
  traces : (s : SessionState) → s.status ≡ l.status → (layers : Layers) (ts : List Task) → TracesOn l.count l.session l.initial.trace.changes (standing layers l.initial.locks s)
      (asks (nowait (in_status l.status l.statement)) (drop l.first (asked (in_status l.status l.statement))) ts)
      l.trace.changes (standing layers l.locks s) (asks (nowait (in_status l.status l.statement)) (drop l.number (asked (in_status l.status l.statement))) ts);
  ready : IsToAsk l.session l.locks (in_status l.status l.statement) l.number;
  below : IsBelow l.count l.locks;
  whole : l.trace.refusal ≡ None;
}
