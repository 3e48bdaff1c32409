use Rattle.std.proofs.Common.{◌≡◌, ◌++◌, take}
use Rattle.shown_texts.proofs.characters.put.Given as goal

-- the bytes passed are put
abbrev pub invariant-loop-byte : goal.invariant-loop-byte
invariant-loop-byte l = l.line ≡ l.fn.line ++ take l.byte-index l.byte-items
