use Rattle.std.proofs.Common.{◌≡◌, ◌≤◌, ◌+◌, take}
use Rattle.fault_texts.specs.Places.{front}
use Rattle.fault_texts.proofs.place.front_of.Given as goal

-- what the bytes passed tell, each number at most one more than they are
abbrev pub invariant-loop-byte : goal.invariant-loop-byte
invariant-loop-byte l = (l.front ≡ front (take l.byte-index l.fn.before)) × (l.front.line ≤ l.byte-index + 1)
    × (l.front.bytes ≤ l.byte-index + 1)
