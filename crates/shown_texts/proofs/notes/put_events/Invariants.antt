use Rattle.std.proofs.Common.{◌≡◌, ◌++◌, flat_map, take}
use Rattle.shown_texts.specs.Lanes.{event_notes}
use Rattle.shown_texts.proofs.notes.put_events.Given as goal

-- the events passed are put
abbrev pub invariant-loop-event : goal.invariant-loop-event
invariant-loop-event l = l.cells ≡ l.fn.cells ++ flat_map (event_notes l.frame l.steps l.moment) (take l.event-index l.events)
