use Rattle.std.proofs.Common.{◌≡◌, All, map, take}
use Rattle.event_tree.specs.Lists.{HasNode, list_of}
use Rattle.marked_worlds.proofs.told.nodes_of.Given as goal

-- the nodes so far are of what was told
abbrev pub invariant-loop-session : goal.invariant-loop-session
invariant-loop-session l = record {
  inside : All (HasNode l.logs.lists) l.nodes.items;
  lists : map (list_of l.logs.lists) l.nodes.items ≡ take l.session l.logs.now;
}
