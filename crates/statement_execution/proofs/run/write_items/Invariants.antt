use Rattle.std.proofs.Common.{◌≡◌}
use Rattle.std.specs.Vec.Iter.{into_iter_items}
use Rattle.statement_execution.specs.Run.{wrote_each, WritesAlone}
use Rattle.statement_execution.proofs.run.write_items.Given as goal

-- those that are left may be written, and with them all are
abbrev pub invariant-loop-write : goal.invariant-loop-write
invariant-loop-write l = WritesAlone l.session (into_iter_items l.write-iterator) l.store
    × (wrote_each l.session (into_iter_items l.write-iterator) l.store ≡ wrote_each l.session l.fn.writes.items l.initial.store)
