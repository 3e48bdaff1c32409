-- What each call on a stage does to where its session stands.
use Rattle.std.specs.Prelude.{ℕ, [], ◌++◌}
use Rattle.lock_queues.specs.Locks.{Spot}
use Rattle.lock_queues.specs.LockTable as locks
use Rattle.row_tables.specs.Layers as layers
use Rattle.bound_statements.specs.declared.statement.Bound.{Bound}
use Rattle.statement_evaluation.specs.Effect.{effect}
use Rattle.statement_execution.specs.Run.{events_of, left_by}
use Rattle.machine_model.specs.declared.status.Status.{Status}
use Rattle.session_steps.specs.Going.{Standing}

-- its lock table is this one
abbrev pub locked : Standing → locks.Locks → Standing
locked x t = record x { locks = t }

-- what it wrote is dropped
abbrev pub undone : ℕ → Standing → Standing
undone i x = record x { layers = layers.undone i x.layers }

-- what it wrote is committed
abbrev pub kept : ℕ → Standing → Standing
kept i x = record x { layers = layers.kept i x.layers }

-- its modes go, and its wait
abbrev pub let_go : ℕ → Standing → Standing
let_go i x = record x { locks = locks.let_go x.locks i }

-- this wait is granted
abbrev pub granted : Spot → Standing → Standing
granted s x = record x { locks = locks.grant x.locks s }

-- it stands so with its block
abbrev pub stands : Standing → Status → Standing
stands x status = record x { own = record { status = status; rest = x.own.rest; transcript = x.own.transcript } }

-- it was told nothing
abbrev pub forgot : Standing → Standing
forgot x = record x { own = record { status = x.own.status; rest = x.own.rest; transcript = [] } }

-- a statement has its effect, or none where it fails
abbrev pub ran : ℕ → Bound → Standing → Standing
ran i st x = record {
  layers = left_by i (effect st (layers.sight i x.layers)) x.layers;
  locks = x.locks;
  own = record { status = x.own.status; rest = x.own.rest; transcript = x.own.transcript ++ events_of (effect st (layers.sight i x.layers)) };
}
