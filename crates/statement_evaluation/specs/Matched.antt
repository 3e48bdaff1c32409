-- Effects from the entries that match, or none where the condition faults.
use Rattle.std.specs.Prelude.{List, map, Option, Some, None}
use Rattle.lock_modes.specs.RowPlace.{RowPlace}
use Rattle.bound_statements.specs.Plan.{Tuple}
use Rattle.bound_statements.specs.declared.statement.Assignment.{Assignment}
use Rattle.bound_statements.specs.declared.statement.SortKey.{SortKey}
use Rattle.bound_statements.specs.declared.statement.Output.{Output}
use Rattle.events.specs.declared.event.Fault.TheVariants.{OutOfRange}
use Rattle.events.specs.declared.event.Event.TheVariants.{Updated, Deleted}
use Rattle.statement_evaluation.specs.Effect.{Effect, Faults, shown, sorted_by, all_assigned, or_fault, counted}

abbrev pub selected : List SortKey → Output → Option (List (RowPlace × Tuple)) → Effect
selected by out None = Faults OutOfRange
selected by out (Some es) = shown out (sorted_by by es)

abbrev pub updated : List Assignment → Option (List (RowPlace × Tuple)) → Effect
updated sets None = Faults OutOfRange
updated sets (Some es) = or_fault OutOfRange (all_assigned sets es) Updated

abbrev pub deleted : Option (List (RowPlace × Tuple)) → Effect
deleted None = Faults OutOfRange
deleted (Some es) = counted Deleted (map (λ (e : RowPlace × Tuple). record { place = e.0; left = None }) es)
