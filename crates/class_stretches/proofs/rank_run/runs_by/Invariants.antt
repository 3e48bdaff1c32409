use Rattle.class_stretches.proofs.Passes.{ArePut}
use Rattle.class_stretches.proofs.rank_run.runs_by.Given as goal

abbrev pub invariant-loop-stretch : goal.invariant-loop-stretch
invariant-loop-stretch l = ArePut l.list l.classes l.stretch-index l.low l.all.items
