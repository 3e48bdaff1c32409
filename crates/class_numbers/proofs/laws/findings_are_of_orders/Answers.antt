use Rattle.class_commands.specs.Classing.{kind_by}
use Rattle.class_commands.specs.Classing.{IsMet, grouping}
use Rattle.class_numbers.specs.Numbers.{AreAsExpected}
use Rattle.class_numbers.proofs.DrawnLemmas.{all-met}
use Rattle.class_numbers.proofs.ExpectedLemmas.{asked-same, met-of-orders}
use Rattle.class_numbers.proofs.laws.findings_are_of_orders.Goals as goal

pub returns : goal.returns
returns c = λ bytes path wanted text t finding found.
    let filters = t.asked.filters.items in
    let met =
    met-of-orders (kind_by wanted.all_orders) t.tables t.are.counted filters (grouping wanted.by_result) t.are.placed t.are.are c.expectations_are_seen.ensures in
    let same = all-met t.are.ranks t.are.placed t.classed wanted.sample t.are.is_told t.asked.expectations.items in
    let rows = IsMet t.are.placed.rows.items in
    let orders = AreAsExpected (kind_by wanted.all_orders) t.tables t.are.counted filters in (
      λ good. asked-same t.tables rows orders (λ e look. (met e look).0) wanted.expectations.items t.asked.expectations.items t.is_asked.expectations
          (same.0 (found.0 good)),
      λ all. found.1
          (same.1 (asked-same t.tables orders rows (λ e look. (met e look).1) wanted.expectations.items t.asked.expectations.items t.is_asked.expectations all)),
    )
