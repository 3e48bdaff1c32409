use Rattle.std.proofs.Common.{rules}
use Rattle.marked_lists.proofs.Undoing.{sound-mark}
use Rattle.marked_lists.proofs.marked_list.MarkedList.mark.Goals as goal

pub invariant_of-self-2 : goal.invariant_of-self-2
invariant_of-self-2 g c =
    let s = c.self.inside in
    let sound = sound-mark s.items.items s.trail.items s.marks.items s.len c.self.invariant in
    search rules
