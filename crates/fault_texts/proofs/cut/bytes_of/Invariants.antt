use Rattle.std.proofs.Common.{◌≡◌, ◌+◌, drop}
use Rattle.fault_texts.specs.Cutting.{bytes_of}
use Rattle.fault_texts.proofs.cut.bytes_of.Given as goal

-- the bytes passed and those to come are all of them
abbrev pub invariant-loop-n : goal.invariant-loop-n
invariant-loop-n l = l.n + bytes_of l.left (drop l.n l.fn.text) ≡ bytes_of l.fn.characters l.fn.text
