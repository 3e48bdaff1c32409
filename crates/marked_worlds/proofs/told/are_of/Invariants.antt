use Rattle.std.proofs.Common.{◌≡◌, map, take}
use Rattle.event_tree.specs.Lists.{list_of}
use Rattle.marked_worlds.proofs.told.are_of.Given as goal

-- those so far were told the lists
abbrev pub invariant-loop-session : goal.invariant-loop-session
invariant-loop-session l = map (list_of l.logs.lists) (take l.session l.nodes) ≡ take l.session l.logs.now
