use Rattle.std.proofs.Common.{◌≡◌, ◌≤◌, drop}
use Rattle.line_moments.specs.Reads.{no_reads, read_all}
use Rattle.line_moments.proofs.reads.open_reads.Given as goal

-- what is read so far leads on to what all events tell, and no more statements have ended than events are read
abbrev pub invariant-loop-event : goal.invariant-loop-event
invariant-loop-event l = (read_all l.reads (drop l.event-index l.events) ≡ read_all no_reads l.events) × (l.reads.place ≤ l.event-index)
