use Rattle.std.proofs.Common.{◌≡◌, ◌<◌, drop, length, None}
use Rattle.lock_queues.specs.Laws.{IsBelow}
use Rattle.session_steps.specs.Going.{tasks_from, GoesOnTo, IsToGo}
use Rattle.session_steps.specs.Stage.{member_at, standing_at}
use Rattle.session_machine.specs.SharedStage.{staged_of}
use Rattle.session_machine.specs.Tracing.{TracesOn}
use Rattle.session_machine.proofs.trace.trace_on.Given as goal

-- the statements so far are done
abbrev pub invariant-loop-number : goal.invariant-loop-number
invariant-loop-number l = record {
  came : GoesOnTo l.session (standing_at l.session (staged_of l.initial.stage)) (tasks_from (member_at (staged_of l.initial.stage) l.session).state.status (drop l.fn.from.statement l.statements) l.fn.from.request)
      (standing_at l.session (staged_of l.stage)) (tasks_from (member_at (staged_of l.stage) l.session).state.status (drop l.number l.statements) l.request);
  traced : TracesOn l.count l.session l.fn.changes (standing_at l.session (staged_of l.initial.stage))
      (tasks_from (member_at (staged_of l.initial.stage) l.session).state.status (drop l.fn.from.statement l.statements) l.fn.from.request)
      l.trace.changes (standing_at l.session (staged_of l.stage)) (tasks_from (member_at (staged_of l.stage) l.session).state.status (drop l.number l.statements) l.request);
  ready : IsToGo l.session l.stage.store l.stage.locks (member_at (staged_of l.stage) l.session).state.status l.statements l.number l.request;
  inside : l.session < length l.stage.members.items;
  below : IsBelow l.count l.stage.locks;
  whole : l.trace.refusal ≡ None;
}
