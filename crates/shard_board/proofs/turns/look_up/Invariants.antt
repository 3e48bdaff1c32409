use Rattle.shard_board.specs.declared.history.Call.TheVariants.{Latest}
use Rattle.shard_board.specs.History.{entry, facts_given}
use Rattle.shard_board.proofs.turns.look_up.Given as goal

abbrev pub ghosts-leave_latest : goal.ghosts-leave_latest
ghosts-leave_latest g a = record { entry = entry a._by (Latest (facts_given a._reply.now)) }
