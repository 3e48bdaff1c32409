use Rattle.std.proofs.Common.{◌≡◌, ◌++◌, flat_map, take}
use Rattle.class_texts.specs.Records.{behind_comma}
use Rattle.class_texts.proofs.records.put_others.Given as goal

-- the events passed are put
abbrev pub invariant-loop-event : goal.invariant-loop-event
invariant-loop-event l = l.line ≡ l.fn.line ++ flat_map (behind_comma l.steps) (take l.event-index l.events)
