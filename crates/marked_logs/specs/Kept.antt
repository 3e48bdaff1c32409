-- How logs are kept. No public clause cites this module.
use Rattle.std.specs.Prelude.{List, map, All}
use Rattle.event_tree.specs.declared.node.NodeId.{NodeId}
use Rattle.event_tree.specs.Lists.{HasNode, list_of}
use Rattle.marked_lists.specs.Versions.{Versions}
use Rattle.marked_logs.specs.Logs.{Logs}

module _ {E : Type 0} where
  -- the lists of these nodes
  abbrev pub lists_at : List (List E) → List NodeId → List (List E)
  lists_at lists ids = map (list_of lists) ids

  abbrev pub logs_of : List (List E) → Versions NodeId → Logs E
  logs_of lists logs = record { lists = lists; now = lists_at lists logs.list; marked = map (lists_at lists) logs.marked }

  -- each log, now and at marks, is a node of the tree
  pub record IsKept (lists : List (List E)) (logs : Versions NodeId) : Type 0 where
    pub now : All (HasNode lists) logs.list
    pub marked : All (All (HasNode lists)) logs.marked
