use Rattle.std.proofs.Common.{rules, ◌<◌, ◌≤◌, inl, length, arith}
use Rattle.marked_lists.proofs.Undoing.{sound-put, lists-put, take-set, same-versions}
use Rattle.marked_lists.proofs.marked_list.MarkedList.set.Goals as goal

pub invariant_of-self-2 : goal.invariant_of-self-2
invariant_of-self-2 g c =
    let s = c.self.inside in
    let inside : c.args.place ≤ length s.items.items = search rules in
    rw (c.in_ok-put.ensures.items, c.in_ok-put.ensures.trail, c.as_slice.ensures.value)
    (sound-put s.items.items s.trail.items s.marks.items c.args.place s.len s.len c.args.value c.self.invariant inside (inl c.self.invariant.inside))

pub returns-clause-set : goal.returns-clause-set
returns-clause-set g c =
    let s = c.self.inside in
    let lt : c.args.place < s.len = search rules in
    let inside : c.args.place ≤ length s.items.items = (let a = c.self.invariant.inside in omega arith) in
    rw (c.in_ok-put.ensures.items, c.in_ok-put.ensures.trail, c.as_slice.ensures.value, ← c.self.view_is)
    (same-versions _ _ _ _ (take-set s.items.items c.args.place s.len c.args.value lt c.self.invariant.inside)
    (lists-put s.items.items s.trail.items s.marks.items c.args.place c.args.value inside c.self.invariant.behind))
