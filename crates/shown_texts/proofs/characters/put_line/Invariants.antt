use Rattle.std.proofs.Common.{◌≡◌, ◌++◌, take}
use Rattle.shown_texts.proofs.characters.put_line.Given as goal

-- the characters passed are put
abbrev pub invariant-loop-c : goal.invariant-loop-c
invariant-loop-c l = l.line ≡ l.fn.line ++ take l.c-index l.more
