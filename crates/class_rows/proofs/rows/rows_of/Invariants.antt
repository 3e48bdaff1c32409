use Rattle.std.proofs.Common.{List, take}
use Rattle.binding_model.specs.declared.tables.Table.{Table}
use Rattle.bound_specs.specs.Spec.{Spec}
use Rattle.spec_schedules.specs.declared.kind.Kind.{Kind}
use Rattle.class_rows.specs.Telling.{AreAdded, AreRowsOf}
use Rattle.class_rows.proofs.rows.rows_of.Given as goal

abbrev pub invariant-loop-place : goal.invariant-loop-place
invariant-loop-place l =
    (kind : Kind) (tables : List Table) (run : Spec) → AreAdded kind tables run l.passing
    → AreRowsOf kind tables run l.by (take l.place l.passing) l.different l.rows.items
