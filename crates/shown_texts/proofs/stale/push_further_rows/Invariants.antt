use Rattle.std.proofs.Common.{◌≡◌, ◌++◌, flat_map, take, string_bytes}
use Rattle.shown_texts.specs.Stale.{further_row}
use Rattle.shown_texts.proofs.stale.push_further_rows.Given as goal

-- the rows passed are put
abbrev pub invariant-loop-event : goal.invariant-loop-event
invariant-loop-event l = string_bytes l.text ≡ string_bytes l.fn.text ++ flat_map further_row (take l.event-index l.events)
