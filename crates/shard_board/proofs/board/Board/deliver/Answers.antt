use Rattle.std.proofs.Common.{◌<◌, Option, Some, None, sym, subst, arith, rules, length}
use Rattle.shard_board.specs.declared.error.TheConstants.{MAX_TURNS}
use Rattle.shard_board.specs.declared.history.Receipt.{Receipt}
use Rattle.shard_board.specs.declared.history.Call.TheVariants.{Deliver}
use Rattle.shard_board.specs.History.{entry}
use Rattle.shard_board.specs.Turning.{HasTurned}
use Rattle.shard_board.specs.Changes.{MayTurn}
use Rattle.shard_board.proofs.RestLemmas.{turn_seen}
use Rattle.shard_board.proofs.board.Board.deliver.Goals as goal

pub returns-clause-turn : goal.returns-clause-turn
returns-clause-turn g c =
    let e = c.hand_in-reply.ensures in
    let n = c.args.number in
    turn_seen _ _ _ _ _ _ c.seat.inside.number (Deliver n c.args.book.facts (Some c.in-Some.receipt)) c.seat.invariant
    (subst (λ (o : Option Receipt). HasTurned c.seat.inside.place.me c.hand_in-reply.new.place.me
    (entry c.seat.inside.number (Deliver n c.args.book.facts o))) c.in-Some.is e.turned) _ _ e.same (sym c.seat.invariant.number_is) _ c.seat.view_is

pub returns-in_default-clause-refused : goal.returns-in_default-clause-refused
returns-in_default-clause-refused g c =
    let e = c.hand_in-reply.ensures in
    let n = c.args.number in
    let t = c.seat.invariant.turns_are in
    let few : length c.seat.inside.place.me.0.own.calls < MAX_TURNS = omega arith in (
      record { same = search rules; claimed = search rules },
      subst MayTurn c.seat.view_is few,
      turn_seen _ _ _ _ _ _ c.seat.inside.number (Deliver n c.args.book.facts None) c.seat.invariant
          (subst (λ (o : Option Receipt). HasTurned c.seat.inside.place.me c.hand_in-reply.new.place.me
          (entry c.seat.inside.number (Deliver n c.args.book.facts o))) c.in_default.is e.turned) _ _ e.same (sym c.seat.invariant.number_is)
          _ c.seat.view_is,
    )
