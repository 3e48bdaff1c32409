use Rattle.std.proofs.Common.{◌≡◌, take, string_bytes}
use Rattle.fault_texts.specs.Cutting.{blank}
use Rattle.fault_texts.proofs.cut.blank_of.Given as goal

-- the white space for the bytes passed
abbrev pub invariant-loop-byte : goal.invariant-loop-byte
invariant-loop-byte l = string_bytes l.white ≡ blank (take l.byte-index l.fn.shown)
