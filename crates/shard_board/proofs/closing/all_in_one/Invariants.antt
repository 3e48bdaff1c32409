use Rattle.std.proofs.Common.{◌≡◌, vec_len}
use Rattle.shard_board.specs.Closing.{OfBoard, Gathered}
use Rattle.shard_board.proofs.closing.all_in_one.Given as goal

abbrev pub invariant-loop-seat : goal.invariant-loop-seat
invariant-loop-seat l = record {
  same : l.keeper.table_id ≡ l.table.shared.table_id;
  board : OfBoard l.table.shared.table_id l.seats.items;
  parts : Gathered l.keeper.me l.seats.items l.fn.seats.items;
}

abbrev pub decreases-loop-seat : goal.decreases-loop-seat
decreases-loop-seat l = vec_len l.seats
