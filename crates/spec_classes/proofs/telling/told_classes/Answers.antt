use Rattle.std.proofs.Common.{rules, ◌≡◌, sym, subst, length, List, All}
use Rattle.order_classes.specs.declared.shows.Shows.{Shows}
use Rattle.spec_classes.specs.declared.tallies.Tally.{Tally}
use Rattle.spec_classes.specs.Meant.{run_by}
use Rattle.spec_classes.specs.Tallies.{AreTallies, AreInTurn, IsFound}
use Rattle.spec_classes.proofs.Classing.{all-found}
use Rattle.spec_classes.proofs.telling.told_classes.Goals as goal

pub classes_by-requires-clause-found : goal.classes_by-requires-clause-found
classes_by-requires-clause-found c =
    let many : c.in-Ok.numbers ≡ length c.args.shows.now = search rules in
    let tallied = subst (λ n. AreTallies n c.args.states.now c.in_ok-tallies.tallies.items) many c.in_ok-tallies.ensures in
    let turn = subst (λ ts. AreInTurn ts c.in_ok-turn.turn.items) c.deref.ensures.value c.in_ok-turn.ensures in
    let found = all-found c.args.orders.kind (run_by c.args.spec.now.run c.args.orders) c.args.shows.now c.args.states.now c.in_ok-tallies.tallies.items c.in_ok-turn.turn.items c.requires.tellable tallied turn in
    subst (λ (shown : List Shows). All (IsFound c.args.orders.kind (run_by c.args.spec.now.run c.args.orders) shown) c.deref-2.result.now) (sym c.shows-shown.ensures)
    (subst (λ (ts : List Tally). All (IsFound c.args.orders.kind (run_by c.args.spec.now.run c.args.orders) c.args.shows.now) ts) (sym c.deref-2.ensures.value) found)
