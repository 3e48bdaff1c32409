use Rattle.std.proofs.Common.{◌∙◌, ◌++◌, ap, sym, length, append_assoc, append-nil}
use Rattle.lock_queues.specs.LockTable.{look_at}
use Rattle.lock_queues.specs.Rings.{hop}
use Rattle.lock_queues.specs.Walks.{walk}
use Rattle.lock_queues.proofs.Walking.{walk-ring, walk-none, walk-some, rows-fewer}
use Rattle.lock_queues.proofs.told.ring_of.Goals as goal

pub loop-row-init : goal.loop-row-init
loop-row-init c =
    let look = look_at c.args.held.now in
    let waits = c.args.waits.now in
    let count = c.args.count in
    let i = c.args.session in
    record {
      rows = c.in_ok-rows.ensures.are;
      told = (λ k. c.new-hops.ensures.items k ++ walk look waits count i (c.in_ok-rows.ensures.many k) i)
          ∙ walk-ring look waits count i c.in_ok-rows.ensures.last c.in_ok-rows.ensures.shortest;
    }

-- no session is next: nothing is left to tell
pub returns-in_default-next_of : goal.returns-in_default-next_of
returns-in_default-next_of c =
    let hops = c.loop-row.hops.items in
    sym (append-nil hops)
    ∙ ap (λ hs. hops ++ hs)
    (sym (walk-none (look_at c.args.held.now) c.args.waits.now c.args.count c.args.session c.loop-row.rows.items c.pop.new.self.items c.in-Some.row
    c.loop-row.current c.in-Some.ensures.items c.loop-row.invariant.rows c.in_default-next_of.ensures)) ∙ c.loop-row.invariant.told

pub loop-row-preserved : goal.loop-row-preserved
loop-row-preserved c =
    let look = look_at c.args.held.now in
    let waits = c.args.waits.now in
    let count = c.args.count in
    let i = c.args.session in
    let rows = c.loop-row.rows.items in
    let before = c.pop.new.self.items in
    let row = c.in-Some.row in
    let a = c.loop-row.current in
    let next = c.in-Some-next_of.next in
    let hops = c.loop-row.hops.items in
    record {
      rows = (rows-fewer look waits count i rows before row c.in-Some.ensures.items c.loop-row.invariant.rows).0;
      told = ap (λ hs. hs ++ walk look waits count i (length before) next) c.in_ok-tell_hop.ensures
          ∙ append_assoc hops (hop look waits a next) (walk look waits count i (length before) next)
          ∙ ap (λ hs. hops ++ hs)
          (sym (walk-some look waits count i rows before row a next c.in-Some.ensures.items c.loop-row.invariant.rows c.in-Some-next_of.ensures))
          ∙ c.loop-row.invariant.told;
    }
