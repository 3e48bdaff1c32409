use Rattle.std.proofs.Common.{◌≡◌, ◌<◌, All, ◌∙◌, subst, arith}
use Rattle.shard_board.specs.Shown.{ShownSeat, shown_seat}
use Rattle.shard_board.specs.Changes.{with_new_claim, with_new_refusal}
use Rattle.shard_board.proofs.ClaimLemmas.{draws}
use Rattle.shard_board.proofs.RestLemmas.{rests_claimed, rests_refused}
use Rattle.shard_board.proofs.RowLemmas.{one_table, one_count}
use Rattle.shard_board.proofs.board.Board.claim.Goals as goal

pub fetch_add-found-requires : goal.fetch_add-found-requires
fetch_add-found-requires c =
    let s = c.self.invariant in
    let i = c.seat.invariant in
    let words = s.words in
    (one_table _ _ _ _ c.seat.view_is c.requires c.self.view_is, omega arith, draws _ _ _ _ i.live i.alone (i.refused_is ∙ c.if-seat.false))

pub overflow_cast-number : goal.overflow_cast-number
overflow_cast-number c = let i = c.seat.invariant.short in omega arith

pub invariant_of-seat : goal.invariant_of-seat
invariant_of-seat c = let e = c.fetch_add-found.ensures.2 in let i = c.seat.invariant in let l = i.long in
    rests_claimed _ _ _ _ _ _ i e.0 _ (omega arith) (e.1 (omega arith)).0

pub invariant_of-seat-else-found-len : goal.invariant_of-seat-else-found-len
invariant_of-seat-else-found-len c = let e = c.fetch_add-found.ensures.2 in let i = c.seat.invariant in let l = i.long in
    rests_refused _ _ _ _ _ _ i e.0 (e.2 (omega arith))

pub returns-then-found-len-clause-claimed : goal.returns-then-found-len-clause-claimed
returns-then-found-len-clause-claimed c =
    let e = c.fetch_add-found.ensures in
    let i = c.seat.invariant in
    let l = i.long in
    let f = e.2.1 (omega arith) in
    let n = c.fetch_add-found.result in
    let count = one_count _ _ c.args.self.now _ c.seat.view_is c.requires in record {
      below = omega arith;
      greater = subst (λ (s : ShownSeat). All (λ x. x < n) s.claims) c.seat.view_is f.1;
      seat = subst (λ (s : ShownSeat). shown_seat c.fetch_add-found.new.seat.table_id c.fetch_add-found.new.seat.me.0 ≡ with_new_claim s n) c.seat.view_is
          (λ j. shown_seat (e.0 j) (f.0 j));
    }

pub returns-else-found-len-clause-claimed : goal.returns-else-found-len-clause-claimed
returns-else-found-len-clause-claimed c = let e = c.fetch_add-found.ensures in let i = c.seat.invariant in let l = i.long in let f = e.2.2 (omega arith) in
    subst (λ (s : ShownSeat). shown_seat c.fetch_add-found.new.seat.table_id c.fetch_add-found.new.seat.me.0 ≡ with_new_refusal s) c.seat.view_is
    (λ j. shown_seat (e.0 j) (f j))
