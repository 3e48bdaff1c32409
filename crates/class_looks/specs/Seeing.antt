-- What a SELECT tells of the rows that are left.
use Rattle.std.specs.Prelude.{◌≡◌, ℕ, cond, List, [], ◌∷◌, get_or, Option, Some, option_map}
use Rattle.lock_modes.specs.RowPlace.{RowPlace}
use Rattle.lock_modes.specs.Rows.{Tuple}
use Rattle.lock_modes.specs.declared.value.Value.{Value}
use Rattle.events.specs.declared.event.Event.{Event}
use Rattle.events.specs.declared.event.Event.TheVariants.{Failed}
use Rattle.bound_statements.specs.declared.statement.Bound.{Bound}
use Rattle.bound_statements.specs.declared.statement.Bound.TheVariants.{Select}
use Rattle.bound_statements.specs.Plan.{at_key}
use Rattle.statement_evaluation.specs.Effect.{Effect, Gives, Faults, matching}
use Rattle.statement_evaluation.specs.Matched.{selected}
use Rattle.binding_model.specs.declared.tables.Table.{Table}
use Rattle.bound_specs.specs.Spec.{Spec}
use Rattle.order_classes.specs.declared.shows.Shows.{Shows}
use Rattle.order_classes.specs.Looks.{IsLook, look_behind}
use Rattle.order_classes.specs.Shows.{shows_of_line}

-- what is told of an effect: its events, or that it fails
abbrev pub told_by : Effect → List Event
told_by (Gives events writes) = events
told_by (Faults fault) = Failed fault ∷ []

-- the rows of a table that are looked at, with their places: those at the key that is named, or all
abbrev pub entries_at : ℕ → Option Value → List (Value × Tuple) → List (RowPlace × Tuple)
entries_at t key [] = []
entries_at t key (e ∷ es) = cond (at_key key e.0) (((t, e.0), e.1) ∷ entries_at t key es) (entries_at t key es)

-- what a SELECT comes to over the rows that are left of each table: those of its table that match, sorted and shown
abbrev pub sees : Bound → List (List (Value × Tuple)) → Effect
sees (Select t key c by out lock) left = selected by out (matching c (entries_at t key (get_or left t [])))
sees _ left = Gives [] []

-- the events are what the SELECT tells in the world behind each line that leaves these rows
abbrev pub SeesLines : Bound → List (List (Value × Tuple)) → List Event → Type 0
SeesLines st left events =
    (tables : List Table) (spec : Spec) (ks : List ℕ) (s : Shows) → IsLook tables st → shows_of_line tables spec ks ≡ Some s → s.left ≡ left
    → option_map told_by (look_behind spec st ks) ≡ Some events
