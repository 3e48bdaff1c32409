use Rattle.std.proofs.Common.{◌≡◌, Some, None, sym, ap, ◌∙◌}
use Rattle.fact_books.specs.Books.{Contents}
use Rattle.atomic_table.specs.Table.{Me}
use Rattle.shard_board.specs.declared.rule.View.{View}
use Rattle.shard_board.specs.declared.history.Call.{Call}
use Rattle.shard_board.specs.declared.history.Call.TheVariants.{Latest}
use Rattle.shard_board.specs.Sums.{Slot}
use Rattle.shard_board.specs.History.{facts_of}
use Rattle.shard_board.specs.Turning.{book_with}
use Rattle.shard_board.proofs.GrowthLemmas.{copy_is}
use Rattle.shard_board.proofs.TurnLemmas.{held_is, put_in, may_end, has_turned, one_out, some_is, still_out}
use Rattle.shard_board.proofs.turns.look_up.Goals as goal

pub exchange-requires : goal.exchange-requires
exchange-requires g c = let e = c.enter.ensures in (e.same.0 ∙ c.requires.table.0, (_, one_out _ _ e.entered.slot))

pub leave_latest-requires-clause-ready : goal.leave_latest-requires-clause-ready
leave_latest-requires-clause-ready g c =
    let e = c.enter.ensures in
    let m' : Me Slot View = c.enter.new.place.me in
    let held : c.in-Some.held ≡ book_with c.args.place.now.me.0.plan (facts_of m'.0.own.seen) =
    some_is _ _ (sym c.in-Some.is ∙ held_is m' _ _ e.entered.slot c.exchange.ensures.2) in
    let copied : c.in-Ok.copy ≡ c.in-Some.held = copy_is _ _ _ c.in-Ok.ensures.union c.requires.empty in
    let call : Call = Latest (Some c.in-Ok.copy.facts) in
    may_end c.args.place.now.me m' c.exchange-in-Ok.new.seat.me c.enter.result c.args.by call c.in-Some.held c.requires.rests e.entered c.requires.few.1
    (put_in m' c.exchange.new.seat.me c.exchange-in-Ok.new.seat.me (book_with c.args.place.now.me.0.plan (facts_of m'.0.own.seen)) None
    (Some c.in-Some.held) e.entered.slot c.exchange.ensures.3 c.exchange-in-Ok.ensures.3)
    (ap (λ (b : Contents). b.facts) (copied ∙ held)) held

pub returns-in-Ok-clause-turned : goal.returns-in-Ok-clause-turned
returns-in-Ok-clause-turned g c =
    let e = c.enter.ensures in
    let m' : Me Slot View = c.enter.new.place.me in
    let copied : c.in-Ok.copy ≡ c.in-Some.held = copy_is _ _ _ c.in-Ok.ensures.union c.requires.empty in
    let call : Call = Latest (Some c.in-Ok.copy.facts) in
    let held : c.in-Some.held ≡ book_with c.args.place.now.me.0.plan (facts_of m'.0.own.seen) =
    some_is _ _ (sym c.in-Some.is ∙ held_is m' _ _ e.entered.slot c.exchange.ensures.2) in
    has_turned c.args.place.now.me m' c.exchange-in-Ok.new.seat.me c.enter.result c.args.by call c.in-Some.held c.requires.rests e.entered c.requires.few.1
    (put_in m' c.exchange.new.seat.me c.exchange-in-Ok.new.seat.me (book_with c.args.place.now.me.0.plan (facts_of m'.0.own.seen)) None
    (Some c.in-Some.held) e.entered.slot c.exchange.ensures.3 c.exchange-in-Ok.ensures.3)
    (ap (λ (b : Contents). b.facts) (copied ∙ held)) c.leave_latest.new.place.me c.leave_latest.ensures.1

pub leave_latest-requires-in-Err-clause-ready : goal.leave_latest-requires-in-Err-clause-ready
leave_latest-requires-in-Err-clause-ready g c =
    let e = c.enter.ensures in
    let m' : Me Slot View = c.enter.new.place.me in
    let held : c.in-Some.held ≡ book_with c.args.place.now.me.0.plan (facts_of m'.0.own.seen) =
    some_is _ _ (sym c.in-Some.is ∙ held_is m' _ _ e.entered.slot c.exchange.ensures.2) in
    may_end c.args.place.now.me m' c.exchange-in-Err.new.seat.me c.enter.result c.args.by (Latest None) c.in-Some.held c.requires.rests e.entered
    c.requires.few.1
    (put_in m' c.exchange.new.seat.me c.exchange-in-Err.new.seat.me (book_with c.args.place.now.me.0.plan (facts_of m'.0.own.seen)) None
    (Some c.in-Some.held) e.entered.slot c.exchange.ensures.3 c.exchange-in-Err.ensures.3)
    tt held

pub returns-in-Err-clause-turned : goal.returns-in-Err-clause-turned
returns-in-Err-clause-turned g c =
    let e = c.enter.ensures in
    let m' : Me Slot View = c.enter.new.place.me in
    has_turned c.args.place.now.me m' c.exchange-in-Err.new.seat.me c.enter.result c.args.by (Latest None) c.in-Some.held c.requires.rests e.entered
    c.requires.few.1
    (put_in m' c.exchange.new.seat.me c.exchange-in-Err.new.seat.me (book_with c.args.place.now.me.0.plan (facts_of m'.0.own.seen)) None
    (Some c.in-Some.held) e.entered.slot c.exchange.ensures.3 c.exchange-in-Err.ensures.3)
    tt c.leave_latest-in-Err.new.place.me c.leave_latest-in-Err.ensures.1

pub exchange-requires-in-Ok : goal.exchange-requires-in-Ok
exchange-requires-in-Ok g c = (
  c.exchange.ensures.0 ∙ (c.enter.ensures.same.0 ∙ c.requires.table.0),
  (None, still_out _ None _ (ap (λ (m : Me Slot View). m.1) c.exchange.ensures.3)),
)

pub exchange-requires-in-Err : goal.exchange-requires-in-Err
exchange-requires-in-Err g c = (
  c.exchange.ensures.0 ∙ (c.enter.ensures.same.0 ∙ c.requires.table.0),
  (None, still_out _ None _ (ap (λ (m : Me Slot View). m.1) c.exchange.ensures.3)),
)
