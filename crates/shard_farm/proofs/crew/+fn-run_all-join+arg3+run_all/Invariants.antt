use Rattle.std.proofs.Common.{vec_len, ◌+◌, ◌*◌}
use Rattle.shard_farm.proofs.crew.+fn-run_all-join+arg3+run_all.Given as goal

abbrev pub decreases-join+arg3 : goal.decreases-join+arg3
decreases-join+arg3 g l = 2 * vec_len l.workers + 1

abbrev pub decreases-run_all : goal.decreases-run_all
decreases-run_all g l = 2 * vec_len l.workers
