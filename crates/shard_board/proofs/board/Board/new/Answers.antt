use Rattle.shard_board.proofs.RowLemmas.{all_of_row}
use Rattle.shard_board.proofs.board.Board.new.Goals as goal

pub returns-in-Ok-clause-board : goal.returns-in-Ok-clause-board
returns-in-Ok-clause-board c = all_of_row _ _ c.in-Ok.ensures.fresh
