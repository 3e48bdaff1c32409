use Rattle.std.proofs.Common.{◌<◌, Option, Some, None, sym, subst, arith, length}
use Rattle.fact_books.specs.Books.{Contents}
use Rattle.shard_board.specs.declared.error.TheConstants.{MAX_TURNS}
use Rattle.shard_board.specs.declared.history.Call.TheVariants.{Latest}
use Rattle.shard_board.specs.History.{entry, facts_given}
use Rattle.shard_board.specs.Turning.{HasTurned}
use Rattle.shard_board.specs.Changes.{MayTurn}
use Rattle.shard_board.proofs.GrowthLemmas.{latest_holds}
use Rattle.shard_board.proofs.RestLemmas.{turn_seen}
use Rattle.shard_board.proofs.board.Board.latest.Goals as goal

pub returns-clause-turn : goal.returns-clause-turn
returns-clause-turn g c =
    let e = c.look_up-reply.ensures in
    turn_seen _ _ _ _ _ _ c.seat.inside.number (Latest (Some c.in-Some.book.facts)) c.seat.invariant
    (subst (λ (o : Option Contents). HasTurned c.seat.inside.place.me c.look_up-reply.new.place.me (entry c.seat.inside.number (Latest (facts_given o))))
    c.in-Some.is e.turned) _ _ e.same (sym c.seat.invariant.number_is) _ c.seat.view_is

pub returns-clause-holds : goal.returns-clause-holds
returns-clause-holds g c =
    let e = c.look_up-reply.ensures in
    latest_holds _ _ _
    (turn_seen _ _ _ _ _ c.look_up-reply.new.place.me c.seat.inside.number (Latest (Some c.in-Some.book.facts)) c.seat.invariant
    (subst (λ (o : Option Contents). HasTurned c.seat.inside.place.me c.look_up-reply.new.place.me (entry c.seat.inside.number (Latest (facts_given o))))
    c.in-Some.is e.turned) _ _ e.same (sym c.seat.invariant.number_is) _ c.seat.view_is)

pub returns-in_default-clause-refused : goal.returns-in_default-clause-refused
returns-in_default-clause-refused g c =
    let e = c.look_up-reply.ensures in
    let t = c.seat.invariant.turns_are in
    let few : length c.seat.inside.place.me.0.own.calls < MAX_TURNS = omega arith in (
      subst MayTurn c.seat.view_is few,
      turn_seen _ _ _ _ _ _ c.seat.inside.number (Latest None) c.seat.invariant
          (subst (λ (o : Option Contents). HasTurned c.seat.inside.place.me c.look_up-reply.new.place.me
          (entry c.seat.inside.number (Latest (facts_given o)))) c.in_default.is e.turned) _ _ e.same (sym c.seat.invariant.number_is) _ c.seat.view_is,
    )
