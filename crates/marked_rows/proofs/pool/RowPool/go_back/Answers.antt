use Rattle.marked_rows.proofs.PoolLemmas.{back-is}
use Rattle.marked_rows.proofs.pool.RowPool.go_back.Goals as goal

pub invariant_of-self : goal.invariant_of-self
invariant_of-self c =
    let s = c.self.inside in
    (back-is s.rows.items c.truncate.new.self.items s.marks.items c.pop.new.self.items c.in-Some.count c.args.self.now c.self.invariant c.self.view_is
    c.in-Some.ensures.items c.truncate.ensures.items).0

pub returns-in-Some : goal.returns-in-Some
returns-in-Some c =
    let s = c.self.inside in
    (back-is s.rows.items c.truncate.new.self.items s.marks.items c.pop.new.self.items c.in-Some.count c.args.self.now c.self.invariant c.self.view_is
    c.in-Some.ensures.items c.truncate.ensures.items).1
