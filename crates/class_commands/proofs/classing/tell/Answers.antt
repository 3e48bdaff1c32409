use Rattle.std.proofs.Common.{◌<◌, All, subst, sym}
use Rattle.bound_specs.specs.Spec.{ranks}
use Rattle.order_classes.specs.declared.rows.ClassRow.{ClassRow}
use Rattle.class_commands.specs.Classing.{IsFinding, grouping, kind_by}
use Rattle.class_commands.specs.Parts.{IsTextOf, Writes}
use Rattle.class_commands.proofs.ClassLemmas.{classes-run, not-run}
use Rattle.class_commands.proofs.SampleLemmas.{counted-inside}
use Rattle.class_commands.proofs.classing.tell.Goals as goal

pub orders_for-requires-clause-ranks : goal.orders_for-requires-clause-ranks
orders_for-requires-clause-ranks g c =
    let a = c.args.asked.now in
    subst (All (λ (row : ClassRow). row.least < ranks a.spec.run)) (sym c.as_slice-rows.ensures.value)
    (counted-inside (kind_by c.args.wanted.now.all_orders) a.tables.items a.spec.run a.asked.filters.items (grouping c.args.wanted.now.by_result) c.args.wanted.now.sample c.args.found.now
    c.requires.found)

pub returns-in-Err : goal.returns-in-Err
returns-in-Err g c bytes is =
    not-run g.W.Write.contents c.args.out.now bytes c.args.path.now c.args.wanted.now c.args.asked.now is c.in-Err.error c.in-Err.ensures.refused

pub returns : goal.returns
returns g c bytes is =
    let a = c.args.asked.now in
    let found = c.args.found.now in
    let Finds = IsFinding found.rows.items a.asked.expectations.items in
    classes-run g.W.Write.contents c.args.out.now c.write_classes.new.out bytes c.args.path.now c.args.wanted.now a is found c.requires.found c.requires.starts.0 c.requires.starts.1
    c.write_classes.result
    (subst (λ ts. Writes g.W.Write.contents c.args.out.now c.write_classes.new.out (IsTextOf c.args.path.now a.spec ts a.levels c.args.wanted.now a.asked found) Finds c.write_classes.result)
    c.as_slice-tables.ensures.value c.write_classes.ensures)
