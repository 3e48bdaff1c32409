use Rattle.std.proofs.Common.{◌≡◌, ◌++◌, map, drop}
use Rattle.class_texts.specs.Beneath.{rows_of}
use Rattle.class_texts.proofs.rows.rows_of.Given as goal

-- the rows passed and those left
abbrev pub invariant-loop-event : goal.invariant-loop-event
invariant-loop-event l = map (λ r. r.now) l.all.items ++ rows_of (drop l.event-index l.events) ≡ rows_of l.events
