use Rattle.std.proofs.Common.{◌≡◌, true, take, string_bytes}
use Rattle.std.specs.List.{list_all}
use Rattle.command_line.specs.Lines.{is_plain}
use Rattle.command_line.proofs.plain.are_plain.Given as goal

-- the words passed are plain
abbrev pub invariant-loop-word : goal.invariant-loop-word
invariant-loop-word l = list_all (λ w. is_plain (string_bytes w)) (take l.word-index l.fn.words) ≡ true
