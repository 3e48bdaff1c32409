use Rattle.std.proofs.Common.{◌+◌, ◌++◌, ◌∷◌, [], sym, ap, ◌∙◌, subst, take}
use Rattle.spec_classes.specs.Meant.{run_by}
use Rattle.spec_classes.specs.Tallies.{AreToldBy}
use Rattle.spec_classes.proofs.Classing.{told-taken}
use Rattle.spec_classes.proofs.telling.classes_by.Goals as goal

pub loop-tally-preserved : goal.loop-tally-preserved
loop-tally-preserved c = record {
  at = c.in_ok-class.ensures.back;
  told = subst (λ cs. AreToldBy c.args.orders.kind (run_by c.args.spec.now.run c.args.orders) c.args.shown.now (take (c.loop-tally.tally-index + 1) c.args.tallies.now) cs)
      (sym (c.push_reserved.ensures.items ∙ ap (λ cs. cs ++ c.in_ok-class.class ∷ []) c.in_ok-reserve.ensures.items))
      (told-taken c.args.orders.kind (run_by c.args.spec.now.run c.args.orders) c.args.shown.now c.args.tallies.now c.loop-tally.classes.items c.loop-tally.tally-index (record { number = 0; count = 0; first = 0 })
      c.in_ok-class.class c.loop-tally-test.true c.loop-tally.invariant.told c.in_ok-class.ensures.class);
}
