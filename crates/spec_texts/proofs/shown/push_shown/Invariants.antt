use Rattle.std.proofs.Common.{length, map, [], false, IsUtf8, ◌≡◌, ◌++◌}
use Rattle.std.specs.String.{string_bytes}
use Rattle.spec_texts.specs.OneLine.{begins_white, shown}
use Rattle.spec_texts.proofs.shown.push_shown.Given as goal

-- what is put and what is left come to the whole token
abbrev pub invariant-loop-rest : goal.invariant-loop-rest
invariant-loop-rest l = record {
  utf8 : IsUtf8 l.rest;
  so_far : string_bytes l.line ++ map shown l.rest ≡ string_bytes l.fn.line ++ map shown l.fn.token;
  white : begins_white l.rest ≡ false → l.rest ≡ [];
}

abbrev pub decreases-loop-rest : goal.decreases-loop-rest
decreases-loop-rest l = length l.rest
