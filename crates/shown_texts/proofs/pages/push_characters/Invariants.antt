use Rattle.std.proofs.Common.{◌≡◌, ◌++◌, take}
use Rattle.std.specs.String.{string_bytes}
use Rattle.std.specs.Prelude.{encode_utf8_all}
use Rattle.shown_texts.proofs.pages.push_characters.Given as goal

-- the characters passed are written
abbrev pub invariant-loop-c : goal.invariant-loop-c
invariant-loop-c l = string_bytes l.text ≡ string_bytes l.fn.text ++ encode_utf8_all (take l.c-index l.line)
