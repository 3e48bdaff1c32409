use Rattle.std.proofs.Common.{List}
use Rattle.std.specs.Prelude.{option_map}
use Rattle.binding_model.specs.declared.tables.Table.{Table}
use Rattle.bound_specs.specs.Spec.{Spec}
use Rattle.class_rows.specs.Telling.{IsSerialOf}
use Rattle.class_rows.proofs.Passes.{GoesOn}
use Rattle.class_rows.proofs.passing.passing_classes.Given as goal

abbrev pub invariant-loop-place : goal.invariant-loop-place
invariant-loop-place l = (tables : List Table) (run : Spec) → IsSerialOf tables run (option_map (λ s. s.now) l.found.serial) → GoesOn tables run l.filters l.found.classes.now l.place l.passing.items
