use Rattle.std.proofs.Common.{sym, subst, ◌+◌, []}
use Rattle.spec_classes.specs.Tallies.{AreTallies}
use Rattle.spec_classes.proofs.Tallied.{empty-next}
use Rattle.spec_classes.proofs.tallies.empty_tallies.Goals as goal

pub loop-number-preserved : goal.loop-number-preserved
loop-number-preserved c =
    subst (λ ts. AreTallies (c.loop-number.number + 1) [] ts) (sym c.in_ok-push.ensures.items) (empty-next c.loop-number.number c.loop-number.tallies.items c.loop-number.invariant)
