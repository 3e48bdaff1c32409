use Rattle.class_commands.proofs.SampleLemmas.{Placed}
use Rattle.class_commands.proofs.sampling.put_ranks.Given as goal

abbrev pub invariant-loop-place : goal.invariant-loop-place
invariant-loop-place l = Placed l.ranks l.fn.rows.items l.place l.rows.items
