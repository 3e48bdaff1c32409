use Rattle.class_commands.specs.Classing.{kind_by}
use Rattle.order_classes.specs.Looks.{IsLook}
use Rattle.asked_classes.specs.declared.expectations.AskedExpectation.{AskedExpectation}
use Rattle.class_commands.specs.Classing.{grouping}
use Rattle.class_numbers.specs.Told.{IsExpectationTold}
use Rattle.class_numbers.proofs.ExpectedLemmas.{asked-all, expectation-told}
use Rattle.class_numbers.proofs.laws.expectations_are_of_orders.Goals as goal

pub returns : goal.returns
returns c = λ bytes path wanted text t.
    let told = λ (e : AskedExpectation). λ (look : IsLook t.tables e.look).
    expectation-told (kind_by wanted.all_orders) t.tables t.are.counted t.asked.filters.items (grouping wanted.by_result) t.are.placed t.are.are c.expectations_are_seen.ensures
    e look c.one_row_is_met.ensures c.looks_see_lines.ensures in
    asked-all t.tables (IsExpectationTold (kind_by wanted.all_orders) t.tables t.are.counted t.asked.filters.items t.are.placed.rows.items) told wanted.expectations.items
    t.asked.expectations.items t.is_asked.expectations
