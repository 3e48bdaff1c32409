use Rattle.std.proofs.Common.{◌≡◌, ◌++◌, flat_map, take}
use Rattle.shown_texts.specs.Lanes.{words}
use Rattle.class_texts.proofs.rows.put_words.Given as goal

-- the events passed are put
abbrev pub invariant-loop-event : goal.invariant-loop-event
invariant-loop-event l = l.line ≡ l.fn.line ++ flat_map (words l.steps) (take l.event-index l.events)
