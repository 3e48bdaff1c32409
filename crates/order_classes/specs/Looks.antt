-- What a SELECT sees of the rows that are left, and what is expected of it.
use Rattle.std.specs.Prelude.{◌≡◌, ℕ, ◌<◌, List, [], ◌∷◌, length, get_or, Option, Some, None, option_map}
use Rattle.lock_modes.specs.declared.value.Value.{Value}
use Rattle.events.specs.declared.event.Event.TheVariants.{Row as RowEvent, Rows}
use Rattle.bound_statements.specs.declared.statement.Bound.{Bound}
use Rattle.bound_statements.specs.declared.statement.Bound.TheVariants.{Select}
use Rattle.statement_evaluation.specs.Effect.{Effect, Gives, effect}
use Rattle.binding_model.specs.Tables.{no_table, key_column}
use Rattle.binding_model.specs.declared.tables.Table.{Table}
use Rattle.bound_specs.specs.Spec.{Spec}
use Rattle.machine_model.specs.World.{World}
use Rattle.order_classes.specs.Shows.{world_of_line}

-- a row is read by its key alone only where the table has one
abbrev pub HasKeyFor : Option ℕ → Option Value → Type 0
HasKeyFor None (Some k) = ⊥
HasKeyFor _ _ = Unit {0}

-- a SELECT of one of the tables, as each that is bound over them is
abbrev pub IsLook : List Table → Bound → Type 0
IsLook tables (Select t k c by o lock) = (t < length tables) × HasKeyFor (key_column (get_or tables t no_table)) k
IsLook tables _ = ⊥

-- without locks: of the committed rows
abbrev pub look_in : Bound → World → Effect
look_in st w = effect st w.rows

-- in the world behind a line, where the spec starts
abbrev pub look_behind : Spec → Bound → List ℕ → Option Effect
look_behind spec st ks = option_map (look_in st) (world_of_line spec ks)

-- one row with these values
abbrev pub one_row : List Value → Effect
one_row vs = Gives (RowEvent vs ∷ Rows 1 ∷ []) []

-- the SELECT sees one row with these values behind the line
abbrev pub Meets : Spec → Bound → List Value → List ℕ → Type 0
Meets spec st vs ks = look_behind spec st ks ≡ Some (one_row vs)
