use Rattle.shard_board.specs.declared.history.Call.TheVariants.{Deliver}
use Rattle.shard_board.specs.History.{entry}
use Rattle.shard_board.proofs.turns.hand_in.Given as goal

abbrev pub ghosts-leave_delivery : goal.ghosts-leave_delivery
ghosts-leave_delivery g a = record { entry = entry a._by (Deliver a._number a._book.now.facts a._reply.now) }
