use Rattle.std.proofs.Common.{take}
use Rattle.spec_classes.specs.Tallies.{AreTallies}
use Rattle.spec_classes.proofs.tallies.tallies_of.Given as goal

abbrev pub invariant-loop-state : goal.invariant-loop-state
invariant-loop-state l = AreTallies l.numbers (take l.state-index l.states) l.tallies.items
