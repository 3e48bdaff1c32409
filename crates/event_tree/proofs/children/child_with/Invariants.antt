use Rattle.std.specs.Prelude.{◌≡◌, ◌≤◌, length}
use Rattle.event_tree.specs.Nodes.{newest, bound, parents_of, NoneFrom}
use Rattle.event_tree.proofs.children.child_with.Given as goal

abbrev pub invariant-loop-next : goal.invariant-loop-next
invariant-loop-next g l = record {
  inside : bound l.next ≤ length l.nodes;
  again : newest (parents_of l.nodes) l.fn.parent.index (bound l.next) ≡ l.next;
  none : NoneFrom l.nodes l.fn.parent.index l.event (bound l.next);
}

abbrev pub decreases-loop-next : goal.decreases-loop-next
decreases-loop-next g l = bound l.next
