use Rattle.std.proofs.Common.{◌≡◌, ◌++◌}
use Rattle.std.specs.Char.Escape.{escape_unicode}
use Rattle.std.specs.Char.Iter.{escape_rest}
use Rattle.shown_texts.proofs.characters.put_escaped.Given as goal

-- what is put and what comes are the whole
abbrev pub invariant-loop-part : goal.invariant-loop-part
invariant-loop-part l = l.line ++ escape_rest l.part-iterator ≡ l.fn.line ++ escape_unicode l.fn.c
