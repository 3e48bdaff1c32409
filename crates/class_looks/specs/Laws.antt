-- The laws of looks.
use Rattle.std.specs.Prelude.{◌≡◌, ◌↔◌, ℕ, List, Some, Ok, Err}
use Rattle.lock_modes.specs.declared.value.Value.{Value}
use Rattle.bound_statements.specs.declared.statement.Bound.{Bound}
use Rattle.binding_model.specs.declared.tables.Table.{Table}
use Rattle.bound_specs.specs.Spec.{Spec}
use Rattle.order_classes.specs.declared.shows.Shows.{Shows}
use Rattle.order_classes.specs.Looks.{IsLook, look_behind, one_row, Meets}
use Rattle.order_classes.specs.Shows.{shows_of_line}
use Rattle.class_looks.specs.declared.fault.LookFault.{LookFault}
use Rattle.class_looks.specs.Reading.{IsLookOf, IsNoLook, look_of}
use Rattle.class_looks.specs.Seeing.{told_by, sees}

-- a text is a look exactly where it spells one SELECT alone that binds, and each fault is told exactly where it is so
abbrev pub LooksAreSpelled : Type 0
LooksAreSpelled =
    (tables : List Table) (text : List ℕ)
    → ((st : Bound) → (look_of tables text ≡ Ok st) ↔ IsLookOf tables text st)
    × ((f : LookFault) → (look_of tables text ≡ Err f) ↔ IsNoLook tables text f)

-- what is seen of the rows that a line leaves is the SELECT's effect in the world behind it
abbrev pub LooksSeeLines : Type 0
LooksSeeLines =
    (tables : List Table) (spec : Spec) (st : Bound) (ks : List ℕ) (s : Shows) → IsLook tables st → shows_of_line tables spec ks ≡ Some s
    → look_behind spec st ks ≡ Some (sees st s.left)

-- so an expectation is met behind a line exactly where that row alone is seen of what it leaves
abbrev pub ExpectationsAreSeen : Type 0
ExpectationsAreSeen =
    (tables : List Table) (spec : Spec) (st : Bound) (vs : List Value) (ks : List ℕ) (s : Shows) → IsLook tables st → shows_of_line tables spec ks ≡ Some s
    → Meets spec st vs ks ↔ (told_by (sees st s.left) ≡ told_by (one_row vs))
