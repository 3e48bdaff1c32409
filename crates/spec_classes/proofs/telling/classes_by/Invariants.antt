use Rattle.std.proofs.Common.{take}
use Rattle.spec_classes.specs.Showing.{IsAtStart}
use Rattle.spec_classes.specs.Meant.{run_by}
use Rattle.spec_classes.specs.Tallies.{AreToldBy}
use Rattle.spec_classes.proofs.telling.classes_by.Given as goal

abbrev pub invariant-loop-tally : goal.invariant-loop-tally
invariant-loop-tally l = record { at : IsAtStart l.spec l.world; told : AreToldBy l.orders.kind (run_by l.spec.run l.orders) l.shown (take l.tally-index l.tallies) l.classes.items }
