use Rattle.std.proofs.Common.{length, IsUtf8, ◌≡◌, ◌++◌}
use Rattle.std.specs.String.{string_bytes}
use Rattle.spec_texts.specs.OneLine.{joined, one_line, parts}
use Rattle.spec_texts.proofs.line.push_parts.Given as goal

-- what is put and what is left come to the whole line
abbrev pub invariant-loop-part : goal.invariant-loop-part
invariant-loop-part l = record {
  utf8 : IsUtf8 l.rest;
  so_far : string_bytes l.line ++ joined l.before (parts l.rest) ≡ string_bytes l.fn.line ++ one_line l.fn.text;
}

abbrev pub decreases-loop-part : goal.decreases-loop-part
decreases-loop-part l = length l.rest
