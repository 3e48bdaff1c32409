use Rattle.std.proofs.Common.{◌+◌, inr, arith}
use Rattle.marked_lists.proofs.Undoing.{sound-put, lists-put, take-push, same-versions}
use Rattle.marked_lists.proofs.marked_list.MarkedList.push.Goals as goal

pub invariant_of-self-2 : goal.invariant_of-self-2
invariant_of-self-2 g c =
    let s = c.self.inside in
    rw (c.in_ok-put.ensures.items, c.in_ok-put.ensures.trail, c.as_slice.ensures.value)
    (sound-put s.items.items s.trail.items s.marks.items s.len s.len (s.len + 1) c.args.value c.self.invariant c.self.invariant.inside (inr (omega arith)))

pub returns-clause-pushed : goal.returns-clause-pushed
returns-clause-pushed g c =
    let s = c.self.inside in
    rw (c.in_ok-put.ensures.items, c.in_ok-put.ensures.trail, c.as_slice.ensures.value, ← c.self.view_is)
    (same-versions _ _ _ _ (take-push s.items.items s.len c.args.value c.self.invariant.inside)
    (lists-put s.items.items s.trail.items s.marks.items s.len c.args.value c.self.invariant.inside c.self.invariant.behind))
