use Rattle.std.proofs.Common.{◌≡◌, ◌≤◌, ◌∷◌, Some, length, drop}
use Rattle.std.specs.Prelude.{slice_get}
use Rattle.world_graph.specs.Worlds.{GoesOn}
use Rattle.world_graph.specs.Walking.{IsWalk, turns_left}
use Rattle.world_graph.proofs.exploring.explore.Given as goal

abbrev pub invariant-turns : goal.invariant-turns
invariant-turns g l = record {
  whole : g.E.Explored.is_whole l.explored;
  walk : IsWalk g.E.Explored.rules (g.E.Explored.seen l.explored) (g.E.Explored.world l.explored) (g.E.Explored.marked l.explored) l.walk;
  most : length (g.E.Explored.seen l.fn.explored) ≤ l.most → length (g.E.Explored.seen l.explored) ≤ l.most;
  starts : slice_get (g.E.Explored.seen l.explored) l.root ≡ Some (g.E.Explored.world l.fn.explored);
  root : l.walk.root ≡ l.root;
  fixed : g.E.Explored.fixed l.explored ≡ g.E.Explored.fixed l.fn.explored;
  seen : GoesOn (g.E.Explored.seen l.fn.explored) (g.E.Explored.seen l.explored);
  bottom : drop (length l.walk.parents.items) (g.E.Explored.world l.explored ∷ g.E.Explored.marked l.explored) ≡ g.E.Explored.world l.fn.explored ∷ g.E.Explored.marked l.fn.explored;
}

abbrev pub decreases-turns : goal.decreases-turns
decreases-turns g l = turns_left l.most l.walk
