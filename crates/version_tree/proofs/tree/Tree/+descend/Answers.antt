use Rattle.std.proofs.Common.{ap, length, length-append, arith, ◌∷◌, ◌≤◌, ◌+◌}
use Rattle.version_tree.specs.Iter.{HasRoom}
use Rattle.version_tree.proofs.NodeLemmas.{at_node}
use Rattle.version_tree.proofs.IterLemmas.{room_below, fits_below, left_below}
use Rattle.version_tree.proofs.tree.Tree.+descend.Goals as goal

pub descend-requires : goal.descend-requires
descend-requires g t c κs within =
    let node = at_node c.self.view_is c.self.invariant c.in-Some.is in
    let room : HasRoom 0 c.push.new.self.items =
    rw c.push.ensures.items (room_below c.args.path.now.items c.deref.result node c.deref.ensures c.requires.place c.requires.room) in
    let fits : length c.push.new.self.items + c.deref-2.result.now.left.height ≤ 20 =
    rw (c.push.ensures.items, c.deref-2.ensures) (fits_below c.args.path.now.items _ node c.requires.room) in
    let falls = c.decreases in
    let entries = ap (λ es. length es) node.entries in
    let both = length-append c.in-Some.node.value.left.entries (c.in-Some.node.value.entry ∷ c.in-Some.node.value.right.entries) in
    let same = ap (λ n. length n.left.entries) c.deref-2.ensures in
    (omega (arith, falls, entries, both, same), (within.0, (within.1, (omega arith, (room, fits)))))

pub returns-clause-left : goal.returns-clause-left
returns-clause-left g t c =
    let node = at_node c.self.view_is c.self.invariant c.in-Some.is in
    rw (c.descend.ensures.left, c.push.ensures.items, c.deref-2.ensures) (left_below c.args.path.now.items c.deref.result node c.deref.ensures)
