use Rattle.std.proofs.Common.{[]}
use Rattle.spec_classes.specs.Tallies.{AreTallies}
use Rattle.spec_classes.proofs.tallies.empty_tallies.Given as goal

abbrev pub invariant-loop-number : goal.invariant-loop-number
invariant-loop-number l = AreTallies l.number [] l.tallies.items
