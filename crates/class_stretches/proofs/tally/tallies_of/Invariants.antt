use Rattle.class_stretches.proofs.Passes.{AreCounted}
use Rattle.class_stretches.proofs.tally.tallies_of.Given as goal

abbrev pub invariant-loop-stretch : goal.invariant-loop-stretch
invariant-loop-stretch l = AreCounted l.list l.stretch-index l.low l.tallies.items
