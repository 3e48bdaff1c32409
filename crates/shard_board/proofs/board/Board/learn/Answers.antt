use Rattle.std.proofs.Common.{List, sym, ap, ◌∙◌, subst, arith}
use mathlib.Core.List.{IsPrefix}
use Rattle.atomic_table.specs.Table.{Me}
use Rattle.shard_board.specs.declared.history.Entry.{Entry}
use Rattle.shard_board.specs.declared.rule.View.{View}
use Rattle.shard_board.specs.Sums.{Slot}
use Rattle.shard_board.specs.Shown.{ShownBoard, ShownNote, ShownSeat, shown_seat}
use Rattle.shard_board.specs.Changes.{SeesMore}
use Rattle.shard_board.proofs.NoteLemmas.{looks, learns}
use Rattle.shard_board.proofs.RestLemmas.{rests_looked, sees_more}
use Rattle.shard_board.proofs.RowLemmas.{one_table}
use Rattle.shard_board.proofs.board.Board.learn.Goals as goal

pub join_seat-requires : goal.join_seat-requires
join_seat-requires c =
    let words = c.self.invariant.words in
    let n = c.note.invariant in
    let note = ap (λ (x : ShownNote). x.board.table_id) c.note.view_is
    ∙ (ap (λ (b : ShownBoard). b.table_id) c.requires.note ∙ sym (ap (λ (b : ShownBoard). b.table_id) c.self.view_is)) in (
      one_table _ _ _ _ c.seat.view_is c.requires.seat c.self.view_is,
      note,
      ap (λ (m : Me Slot View). m.1) n,
      omega arith,
      learns _ _ _ _ _ _ c.note.inside.place.me.0.own.seen (ap (λ (m : Me Slot View). m.0) n),
    )

pub load-requires : goal.load-requires
load-requires c = let words = c.self.invariant.words in
    (c.join_seat.ensures.0 ∙ one_table _ _ _ _ c.seat.view_is c.requires.seat c.self.view_is, omega arith, looks _ _ _ _)

pub invariant_of-seat : goal.invariant_of-seat
invariant_of-seat c = let j = c.join_seat.ensures.2 in rests_looked _ _ _ _ c.seat.inside.place.me c.join_seat.new.seat.me _ c.seat.invariant
    (ap (λ (m : Me Slot View). m.1) j) _ (ap (λ (m : Me Slot View). m.0) j) _ c.load.ensures.2

pub returns : goal.returns
returns c =
    let l = c.load.ensures.2 in
    let j = c.join_seat.ensures.2 in
    let more = subst (λ (s : ShownSeat). SeesMore s (shown_seat c.load.new.seat.table_id c.load.new.seat.me.0)) c.seat.view_is
    (sees_more _ _ _ _ c.seat.inside.place.me c.join_seat.new.seat.me _ c.seat.invariant (ap (λ (m : Me Slot View). m.1) j) _
    (ap (λ (m : Me Slot View). m.0) j) _ l _ _ (c.load.ensures.0 ∙ c.join_seat.ensures.0)) in record {
      same = ap (λ (s : ShownSeat). s.board) more.seat;
      seen = more;
      told = subst (λ (xs : List Entry). IsPrefix xs c.load.new.seat.me.0.own.seen) (ap (λ (m : Me Slot View). m.0.told) j
          ∙ ap (λ (x : ShownNote). x.seen) c.note.view_is) l.told;
    }
