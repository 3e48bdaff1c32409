use Rattle.std.proofs.Common.{◌≡◌, ◌≤◌, take, drop, length}
use Rattle.std.specs.Prelude.{All}
use Rattle.marked_lists.specs.Trail.{undone, IsInside}
use Rattle.marked_lists.proofs.trail.undo.Given as goal

abbrev pub invariant-loop-trail : goal.invariant-loop-trail
invariant-loop-trail g l = record {
  within : l.len ≤ length l.trail.items;
  places : All (IsInside l.items.items) l.trail.items;
  items : undone (drop l.len l.trail.items) l.items.items ≡ undone (drop l.len l.initial.trail.items) l.initial.items.items;
  trail : take l.len l.trail.items ≡ take l.len l.initial.trail.items;
}

abbrev pub decreases-loop-trail : goal.decreases-loop-trail
decreases-loop-trail g l = length l.trail.items
