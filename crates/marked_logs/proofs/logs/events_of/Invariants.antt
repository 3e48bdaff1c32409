use Rattle.std.proofs.Common.{◌≡◌, ◌++◌, length, map, reverse}
use Rattle.event_tree.specs.Lists.{HasNode, list_of}
use Rattle.marked_logs.proofs.logs.events_of.Given as goal

-- the list is that of the node, with the events behind it that were come past
abbrev pub invariant-loop-event : goal.invariant-loop-event
invariant-loop-event g l =
    HasNode l.tree l.at × (list_of l.tree l.fn.id ≡ list_of l.tree l.at ++ reverse (map (λ e. e.now) l.events.items))

abbrev pub decreases-loop-event : goal.decreases-loop-event
decreases-loop-event g l = length (list_of l.tree l.at)
