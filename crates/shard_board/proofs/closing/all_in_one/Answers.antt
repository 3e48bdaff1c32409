use Rattle.std.proofs.Common.{◌≡◌, List, [], ◌∷◌, ◌++◌, sym, ◌∙◌, subst}
use Rattle.atomic_table.specs.Seated.{TableId}
use Rattle.shard_board.specs.Shown.{ShownSeat}
use Rattle.shard_board.specs.Closing.{OfBoard, Gathered}
use Rattle.shard_board.proofs.NoteLemmas.{gathers}
use Rattle.shard_board.proofs.ClosingLemmas.{of_board_less, gathers_first, gathers_next}
use Rattle.shard_board.proofs.closing.all_in_one.Goals as goal

pub loop-seat-init : goal.loop-seat-init
loop-seat-init c =
    let t : TableId = c.args.table.now.shared.table_id in
    let rest : List ShownSeat = c.pop.new.self.items in
    let e : c.args.seats.items ≡ rest ++ c.in-Some.first ∷ [] = c.in-Some.ensures.items in
    let b = of_board_less t rest c.in-Some.first (subst (OfBoard t) e c.requires.seats.1) in
    let p = c.place_of-keeper.ensures in record {
      same = p.0 ∙ b.1;
      board = b.0;
      parts = subst (λ (all : List ShownSeat). Gathered c.place_of-keeper.result.me rest all) (sym e)
          (gathers_first c.place_of-keeper.result.me rest c.in-Some.first p.1 p.2);
    }

pub join_seat-requires : goal.join_seat-requires
join_seat-requires c =
    let t : TableId = c.args.table.now.shared.table_id in
    let i = c.loop-seat.invariant in
    let p = c.place_of-place.ensures in
    let r = p.1 in
    let b = of_board_less t c.pop-in-loop-seat.new.self.items c.in-Some-pop.seat (subst (OfBoard t) c.in-Some-pop.ensures.items i.board) in
    (i.same, p.0 ∙ b.1, r.0, c.requires.table, gathers _ _ _ _ _ r.1 r.2 r.3 r.4)

pub loop-seat-preserved : goal.loop-seat-preserved
loop-seat-preserved c =
    let t : TableId = c.args.table.now.shared.table_id in
    let i = c.loop-seat.invariant in
    let rest : List ShownSeat = c.pop-in-loop-seat.new.self.items in
    let e : c.loop-seat.seats.items ≡ rest ++ c.in-Some-pop.seat ∷ [] = c.in-Some-pop.ensures.items in
    let b = of_board_less t rest c.in-Some-pop.seat (subst (OfBoard t) e i.board) in
    let p = c.place_of-place.ensures in
    let j = c.join_seat.ensures in record {
      same = j.0 ∙ i.same;
      board = b.0;
      parts = gathers_next c.loop-seat.keeper.me c.join_seat.new.seat.me c.place_of-place.result.me.0 rest c.args.seats.items c.in-Some-pop.seat
          (subst (λ (l : List ShownSeat). Gathered c.loop-seat.keeper.me l c.args.seats.items) e i.parts) p.2 j.2;
    }
