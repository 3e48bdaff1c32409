use Rattle.std.proofs.Common.{◌≡◌, ◌<◌, ◌+◌, ◌-◌, ◌∙◌, ◌∷◌, [], List, Bool, ap, sym, subst, length, length-append, arith}
use Rattle.lock_queues.specs.LockTable.{look_at}
use Rattle.lock_queues.specs.Rings.{longest}
use Rattle.lock_queues.specs.Walks.{IsEnough}
use Rattle.lock_queues.proofs.Walking.{Rising, rising-more, rising-ends, rising-enough}
use Rattle.lock_queues.proofs.told.rows_to.Goals as goal

pub loop-behind-smaller : goal.loop-behind-smaller
loop-behind-smaller c =
    let rows = c.loop-behind.rows.items in
    let row = c.loop-behind.row in
    let ends : length rows < longest c.args.count =
    rising-ends (look_at c.args.held.now) c.args.waits.now c.args.count c.args.session rows row c.loop-behind.behind c.requires.below c.requires.closes
    c.loop-behind.invariant in
    let long : length c.push.new.self.items ≡ length rows + 1 =
    ap (λ (rs : List (List Bool)). length rs) c.in_ok-push.ensures.items ∙ length-append rows (row ∷ []) in
    let less : longest c.args.count - length c.push.new.self.items < longest c.args.count - length rows = omega (arith, ends, long) in
    less

pub loop-behind-preserved : goal.loop-behind-preserved
loop-behind-preserved c =
    let look = look_at c.args.held.now in
    let behind = c.loop-behind.behind in
    let new = c.row_behind-behind-in-loop-behind.result in
    subst (λ rs. Rising look c.args.waits.now c.args.count c.args.session rs behind new) (sym c.in_ok-push.ensures.items)
    (rising-more look c.args.waits.now c.args.count c.args.session c.loop-behind.rows.items c.loop-behind.row behind new c.requires.below
    c.loop-behind.invariant (sym c.loop-behind-test.ensures) c.row_behind-behind-in-loop-behind.ensures)

pub returns : goal.returns
returns c =
    let look = look_at c.args.held.now in
    subst (λ rs. IsEnough look c.args.waits.now c.args.count c.args.session rs) (sym c.in_ok-push-2.ensures.items)
    (rising-enough look c.args.waits.now c.args.count c.args.session c.loop-behind.rows.items c.loop-behind.row c.loop-behind.behind c.requires.below
    c.requires.closes c.loop-behind.invariant (sym c.loop-behind-test.ensures))
