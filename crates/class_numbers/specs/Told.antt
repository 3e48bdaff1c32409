-- What is told of expectations, by the orders themselves.
use Rattle.std.specs.Prelude.{◌≡◌, List, Option, Some, None, option_map}
use Rattle.binding_model.specs.declared.tables.Table.{Table}
use Rattle.bound_specs.specs.Spec.{Spec}
use Rattle.events.specs.declared.event.Event.{Event}
use Rattle.spec_schedules.specs.declared.kind.Kind.{Kind}
use Rattle.spec_schedules.specs.Ranked.{IsOrderAt}
use Rattle.order_classes.specs.declared.letters.Filter.{Filter}
use Rattle.order_classes.specs.declared.rows.ClassRow.{ClassRow}
use Rattle.order_classes.specs.Looks.{look_behind}
use Rattle.order_classes.specs.Numbers.{IsNumberOf, IsLeastOf}
use Rattle.class_looks.specs.Seeing.{told_by}
use Rattle.class_texts.specs.Expected.{first_miss, met_from}
use Rattle.asked_classes.specs.declared.expectations.AskedExpectation.{AskedExpectation}
use Rattle.class_commands.specs.Classing.{expectation_over}
use Rattle.class_numbers.specs.Numbers.{IsAsExpected, IsNotAsExpected, AreAsExpected}

-- no order is told where each that is asked for is as expected; else the least rank whose order is not, with that order and with what the SELECT sees of what
-- it leaves
abbrev pub IsMissTold : Kind → List Table → Spec → List Filter → AskedExpectation → Option (ClassRow × List Event) → Type 0
IsMissTold kind tables run filters e None = AreAsExpected kind tables run filters e
IsMissTold kind tables run filters e (Some miss) =
    IsLeastOf (IsNotAsExpected kind tables run filters e) miss.0.least
    × IsOrderAt kind run miss.0.least miss.0.line.items
    × (option_map told_by (look_behind run e.look miss.0.line.items) ≡ Some miss.1)

-- so many orders are told to be as expected as are so, and the first that is not
pub record IsExpectationTold (kind : Kind) (tables : List Table) (run : Spec) (filters : List Filter) (rows : List ClassRow) (e : AskedExpectation) : Type 0 where
  pub met : IsNumberOf (IsAsExpected kind tables run filters e) (met_from (expectation_over rows e) 0 rows)
  pub first : IsMissTold kind tables run filters e (first_miss (expectation_over rows e) 0 rows)
