use Rattle.std.proofs.Common.{length, drop, false, ◌-◌, ◌≡◌, ◌+◌, ◌≤◌}
use Rattle.spec_reader.specs.Quoted.{quoted_len}
use Rattle.spec_reader.proofs.quoted.quoted_len.Given as goal

abbrev pub invariant-loop-len : goal.invariant-loop-len
invariant-loop-len l = record { within : l.len ≤ length l.bytes; so_far : l.len + quoted_len l.second (drop l.len l.bytes) ≡ quoted_len false l.bytes }

abbrev pub decreases-loop-len : goal.decreases-loop-len
decreases-loop-len l = length l.bytes - l.len
