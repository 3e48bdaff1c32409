-- Outcomes that were told, as they are kept.
use Rattle.std.specs.Prelude.{◌≡◌, List, All, map}
use Rattle.event_tree.specs.Lists.{HasNode, list_of}
use Rattle.events.specs.declared.event.Event.{Event}
use Rattle.marked_worlds.specs.declared.told.ToldOutcome.{ToldOutcome}

-- the nodes are some of the tree's, and the outcome is their lists
pub record IsTold (lists : List (List Event)) (t : ToldOutcome) : Type 0 where
  pub inside : All (HasNode lists) t.nodes.items
  pub outcome : map (list_of lists) t.nodes.items ≡ t.outcome

-- so it is with each
abbrev pub AreTold : List (List Event) → List ToldOutcome → Type 0
AreTold lists kept = All (IsTold lists) kept

-- the outcomes by themselves
abbrev pub outcomes_of : List ToldOutcome → List (List (List Event))
outcomes_of kept = map (λ (t : ToldOutcome). t.outcome) kept
