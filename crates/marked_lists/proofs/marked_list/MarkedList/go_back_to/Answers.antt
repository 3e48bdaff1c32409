use Rattle.std.proofs.Common.{ap}
use Rattle.marked_lists.proofs.Undoing.{sound-back, lists-back, inside-marks}
use Rattle.marked_lists.proofs.marked_list.MarkedList.go_back_to.Goals as goal

pub invariant_of-self : goal.invariant_of-self
invariant_of-self g c =
    let s = c.self.inside in
    let lt = inside-marks s.items.items s.trail.items s.marks.items _ c.args.number (ap (λ v. v.marked) c.self.view_is) c.requires in
    rw (c.undo.ensures.items, c.undo.ensures.trail, c.truncate.ensures.items)
    (sound-back s.items.items s.trail.items s.marks.items s.len c.args.number c.index-mark.result.now c.self.invariant lt c.index-mark.ensures)

pub returns : goal.returns
returns g c =
    let s = c.self.inside in
    let lt = inside-marks s.items.items s.trail.items s.marks.items _ c.args.number (ap (λ v. v.marked) c.self.view_is) c.requires in
    rw (c.undo.ensures.items, c.undo.ensures.trail, c.truncate.ensures.items, ← c.self.view_is)
    (lists-back s.items.items s.trail.items s.marks.items s.len c.args.number c.index-mark.result.now c.self.invariant lt c.index-mark.ensures)
