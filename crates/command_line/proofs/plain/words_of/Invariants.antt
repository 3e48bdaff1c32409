use Rattle.std.proofs.Common.{◌≡◌, map, take, string_bytes}
use Rattle.command_line.proofs.plain.words_of.Given as goal

-- the words passed
abbrev pub invariant-loop-word : goal.invariant-loop-word
invariant-loop-word l = map (λ w. w.now) l.lent.items ≡ map string_bytes (take l.word-index l.fn.words)
