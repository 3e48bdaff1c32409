use Rattle.std.proofs.Common.{◌≡◌, Some, None, refl, sym, ap, ◌∙◌}
use Rattle.fact_books.specs.Books.{Contents, joined}
use Rattle.atomic_table.specs.Table.{Me}
use Rattle.shard_board.specs.declared.rule.View.{View}
use Rattle.shard_board.specs.declared.history.Call.{Call}
use Rattle.shard_board.specs.declared.history.Call.TheVariants.{Deliver}
use Rattle.shard_board.specs.Sums.{Slot}
use Rattle.shard_board.specs.History.{facts_of}
use Rattle.shard_board.specs.Turning.{book_with}
use Rattle.shard_board.proofs.TurnLemmas.{held_is, put_in, may_end, has_turned, one_out, some_is, still_out}
use Rattle.shard_board.proofs.turns.hand_in.Goals as goal

pub exchange-requires : goal.exchange-requires
exchange-requires g c = let e = c.enter-turn.ensures in (e.same.0 ∙ c.requires.table.0, (_, one_out _ _ e.entered.slot))

pub leave_delivery-requires-clause-ready : goal.leave_delivery-requires-clause-ready
leave_delivery-requires-clause-ready g c =
    let e = c.enter-turn.ensures in
    let m' : Me Slot View = c.enter-turn.new.place.me in
    let held : c.in-Some.held ≡ book_with c.args.place.now.me.0.plan (facts_of m'.0.own.seen) =
    some_is _ _ (sym c.in-Some.is ∙ held_is m' _ _ e.entered.slot c.exchange.ensures.2) in
    let call : Call = Deliver c.args.number c.args.book.now.facts (Some record { turn = c.enter-turn.result; number = c.args.number }) in
    may_end c.args.place.now.me m' c.exchange-in-Ok.new.seat.me c.enter-turn.result c.args.by call c.add.new.self c.requires.rests e.entered c.requires.few.1
    (put_in m' c.exchange.new.seat.me c.exchange-in-Ok.new.seat.me (book_with c.args.place.now.me.0.plan (facts_of m'.0.own.seen)) None
    (Some c.add.new.self) e.entered.slot c.exchange.ensures.3 c.exchange-in-Ok.ensures.3)
    (refl, refl) (c.in-Ok.ensures.union ∙ ap (λ (b : Contents). joined b c.args.book.now) held)

pub returns-in-Ok-clause-turned : goal.returns-in-Ok-clause-turned
returns-in-Ok-clause-turned g c =
    let e = c.enter-turn.ensures in
    let m' : Me Slot View = c.enter-turn.new.place.me in
    let call : Call = Deliver c.args.number c.args.book.now.facts (Some record { turn = c.enter-turn.result; number = c.args.number }) in
    has_turned c.args.place.now.me m' c.exchange-in-Ok.new.seat.me c.enter-turn.result c.args.by call c.add.new.self c.requires.rests e.entered c.requires.few.1
    (put_in m' c.exchange.new.seat.me c.exchange-in-Ok.new.seat.me (book_with c.args.place.now.me.0.plan (facts_of m'.0.own.seen)) None
    (Some c.add.new.self) e.entered.slot c.exchange.ensures.3 c.exchange-in-Ok.ensures.3)
    (refl, refl) c.leave_delivery.new.place.me c.leave_delivery.ensures.1

pub leave_delivery-requires-in-Err-clause-ready : goal.leave_delivery-requires-in-Err-clause-ready
leave_delivery-requires-in-Err-clause-ready g c =
    let e = c.enter-turn.ensures in
    let m' : Me Slot View = c.enter-turn.new.place.me in
    let held : c.in-Some.held ≡ book_with c.args.place.now.me.0.plan (facts_of m'.0.own.seen) =
    some_is _ _ (sym c.in-Some.is ∙ held_is m' _ _ e.entered.slot c.exchange.ensures.2) in
    may_end c.args.place.now.me m' c.exchange-in-Err.new.seat.me c.enter-turn.result c.args.by (Deliver c.args.number c.args.book.now.facts None)
    c.add.new.self c.requires.rests e.entered c.requires.few.1
    (put_in m' c.exchange.new.seat.me c.exchange-in-Err.new.seat.me (book_with c.args.place.now.me.0.plan (facts_of m'.0.own.seen)) None
    (Some c.add.new.self) e.entered.slot c.exchange.ensures.3 c.exchange-in-Err.ensures.3)
    tt (c.in-Err.ensures.back ∙ held)

pub returns-in-Err-clause-turned : goal.returns-in-Err-clause-turned
returns-in-Err-clause-turned g c =
    let e = c.enter-turn.ensures in
    let m' : Me Slot View = c.enter-turn.new.place.me in
    has_turned c.args.place.now.me m' c.exchange-in-Err.new.seat.me c.enter-turn.result c.args.by (Deliver c.args.number c.args.book.now.facts None)
    c.add.new.self c.requires.rests e.entered c.requires.few.1
    (put_in m' c.exchange.new.seat.me c.exchange-in-Err.new.seat.me (book_with c.args.place.now.me.0.plan (facts_of m'.0.own.seen)) None
    (Some c.add.new.self) e.entered.slot c.exchange.ensures.3 c.exchange-in-Err.ensures.3)
    tt c.leave_delivery-in-Err.new.place.me c.leave_delivery-in-Err.ensures.1

pub exchange-requires-in-Ok : goal.exchange-requires-in-Ok
exchange-requires-in-Ok g c = (
  c.exchange.ensures.0 ∙ (c.enter-turn.ensures.same.0 ∙ c.requires.table.0),
  (None, still_out _ None _ (ap (λ (m : Me Slot View). m.1) c.exchange.ensures.3)),
)

pub exchange-requires-in-Err : goal.exchange-requires-in-Err
exchange-requires-in-Err g c = (
  c.exchange.ensures.0 ∙ (c.enter-turn.ensures.same.0 ∙ c.requires.table.0),
  (None, still_out _ None _ (ap (λ (m : Me Slot View). m.1) c.exchange.ensures.3)),
)
