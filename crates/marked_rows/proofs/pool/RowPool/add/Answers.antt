use Rattle.marked_rows.proofs.PoolLemmas.{number-added, pool-added}
use Rattle.std.proofs.Common.{rules}
use Rattle.marked_rows.proofs.pool.RowPool.add.Goals as goal

pub returns-in_ok-push-in-Some-clause-added : goal.returns-in_ok-push-in-Some-clause-added
returns-in_ok-push-in-Some-clause-added c =
    let s = c.self.inside in
    pool-added s.rows.items c.push.new.self.items s.marks.items c.args.self.now c.in-Some.row c.args.row c.self.invariant c.self.view_is c.in-Some.is
    c.in_ok-push-in-Some.ensures.items

pub returns-in_ok-push-in-Some-clause-number : goal.returns-in_ok-push-in-Some-clause-number
returns-in_ok-push-in-Some-clause-number c =
    let s = c.self.inside in
    number-added s.rows.items c.push.new.self.items c.in-Some.row c.args.row c.len-number.result (search rules) c.in-Some.is
    c.in_ok-push-in-Some.ensures.items
