use Rattle.std.specs.Prelude.{◌≡◌, ◌-◌, ◌≤◌, vec_len}
use Rattle.std.specs.Io.KnownBytes.{Consumes}
use Rattle.transcripts.specs.Counted.{failures_of, unread}
use Rattle.transcripts.proofs.counted.Counted.read_up_to.Given as goal

-- what was read stands in the list, and no call has failed
abbrev pub invariant-loop-chunk : goal.invariant-loop-chunk
invariant-loop-chunk g l = (vec_len l.bytes ≤ l.limit)
    × Consumes (unread g.R.Read.remaining l.fn.self) (unread g.R.Read.remaining l.self) l.bytes.items
    × (failures_of l.self ≡ failures_of l.fn.self)

abbrev pub decreases-loop-chunk : goal.decreases-loop-chunk
decreases-loop-chunk g l = l.limit - vec_len l.bytes
