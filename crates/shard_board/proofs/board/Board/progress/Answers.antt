use Rattle.std.proofs.Common.{refl, sym, ap, subst, arith}
use Rattle.shard_board.specs.Shown.{ShownSeat, shown_seat}
use Rattle.shard_board.specs.Changes.{SeesMore}
use Rattle.shard_board.proofs.NoteLemmas.{looks}
use Rattle.shard_board.proofs.RestLemmas.{rests_looked, sees_more}
use Rattle.shard_board.proofs.RowLemmas.{one_table}
use Rattle.shard_board.proofs.board.Board.progress.Goals as goal

pub load-requires : goal.load-requires
load-requires c = let words = c.self.invariant.words in (one_table _ _ _ _ c.seat.view_is c.requires c.self.view_is, omega arith, looks _ _ _ _)

pub invariant_of-seat : goal.invariant_of-seat
invariant_of-seat c = rests_looked _ _ _ _ _ _ _ c.seat.invariant refl _ refl _ c.load.ensures.2

pub returns : goal.returns
returns c =
    let l = c.load.ensures.2 in
    let more = subst (λ (s : ShownSeat). SeesMore s (shown_seat c.load.new.seat.table_id c.load.new.seat.me.0)) c.seat.view_is
    (sees_more _ _ _ _ _ _ _ c.seat.invariant refl _ refl _ l _ _ c.load.ensures.0) in record {
      same = ap (λ (s : ShownSeat). s.board) more.seat;
      count = sym l.long;
      seen = more;
    }
