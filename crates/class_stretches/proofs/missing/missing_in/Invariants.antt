use Rattle.class_stretches.proofs.Passes.{AreMissing}
use Rattle.class_stretches.proofs.missing.missing_in.Given as goal

abbrev pub invariant-loop-stretch : goal.invariant-loop-stretch
invariant-loop-stretch l = AreMissing l.list l.stretch-index l.low l.missing
