use Rattle.class_stretches.proofs.Passes.{AreRuns}
use Rattle.class_stretches.proofs.rank_run.runs_in.Given as goal

abbrev pub invariant-loop-stretch : goal.invariant-loop-stretch
invariant-loop-stretch l = AreRuns l.list l.class l.stretch-index l.low l.runs.items
