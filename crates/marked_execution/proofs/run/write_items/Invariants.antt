use Rattle.std.proofs.Common.{◌≡◌}
use Rattle.std.specs.Vec.Iter.{into_iter_items}
use Rattle.statement_execution.specs.Run.{wrote_each, WritesAlone}
use Rattle.marked_execution.proofs.run.write_items.Given as goal

-- those that are left may be written, with them all are, and marks stay
abbrev pub invariant-loop-write : goal.invariant-loop-write
invariant-loop-write l = record {
  alone : WritesAlone l.session (into_iter_items l.write-iterator) l.rows.now;
  left : wrote_each l.session (into_iter_items l.write-iterator) l.rows.now ≡ wrote_each l.session l.fn.writes.items l.initial.rows.now;
  marked : l.rows.marked ≡ l.initial.rows.marked;
}
