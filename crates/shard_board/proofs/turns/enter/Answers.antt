use Rattle.std.proofs.Common.{ap, ◌∙◌, subst, arith}
use Rattle.atomic_table.specs.Table.{Me}
use Rattle.shard_board.specs.declared.rule.View.{View}
use Rattle.shard_board.specs.Sums.{Slot}
use Rattle.shard_board.specs.Turning.{Takes}
use Rattle.shard_board.proofs.StepLemmas.{queues, waits_for}
use Rattle.shard_board.proofs.turns.enter.Goals as goal

pub fetch_add-ticket-requires : goal.fetch_add-ticket-requires
fetch_add-ticket-requires g c = let t = c.requires.table in let r = c.requires.rests in
    (t.0, omega arith, queues _ _ _ _ r.1 r.2 r.3 r.4 c.requires.few)

pub loop-init : goal.loop-init
loop-init g c = let e = c.fetch_add-ticket.ensures in let r = c.requires.rests in
    record { table = e.0; id = e.1; me = λ i. (e.2.1 i, (e.2.0 ∙ r.0) i) }

pub load-requires : goal.load-requires
load-requires g c = let t = c.requires.table in let r = c.requires.rests in let i = c.loop.invariant in (
  i.table ∙ t.0,
  omega arith,
  waits_for _ _ _ _ c.fetch_add-ticket.result (ap (λ (m : Me Slot _). m.0.live) i.me ∙ r.1)
      (ap (λ (m : Me Slot _). m.0.ticket) i.me) (ap (λ (m : Me Slot _). m.0.holding) i.me ∙ r.4),
)

pub loop-preserved : goal.loop-preserved
loop-preserved g c = let i = c.loop.invariant in let e = c.load.ensures in
    record {
      table = e.0 ∙ i.table;
      id = e.1 ∙ i.id;
      me = (e.2 c.fetch_add-ticket.result (ap (λ (m : Me Slot _). m.0.ticket) i.me)).0 c.if-load-ticket.false
          ∙ i.me;
    }

pub returns-then-load-ticket : goal.returns-then-load-ticket
returns-then-load-ticket g c = let i = c.loop.invariant in let e = c.load.ensures in
    let t = (e.2 c.fetch_add-ticket.result (ap (λ (m : Me Slot _). m.0.ticket) i.me)).1 c.if-load-ticket.true in
    let u = subst (λ (m : Me Slot View). Takes m c.load.new.seat.me c.load.result) i.me t in
    record {
      same = (e.0 ∙ i.table, e.1 ∙ i.id);
      entered = record { slot = u.slot; view = u.view; legal = u.legal; before = u.before; long = u.long ∙ c.if-load-ticket.true; mine = u.mine };
    }
