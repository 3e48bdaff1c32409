use Rattle.std.proofs.Common.{arith}
use Rattle.shard_board.proofs.RowLemmas.{one_table}
use Rattle.shard_board.proofs.NoteLemmas.{tells}
use Rattle.shard_board.proofs.board.Board.note.Goals as goal

pub split_seat-place-requires : goal.split_seat-place-requires
split_seat-place-requires c = let words = c.self.invariant.words in (one_table _ _ _ _ c.seat.view_is c.requires c.self.view_is, omega arith, tells _ _ _)
