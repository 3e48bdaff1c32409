use Rattle.std.proofs.Common.{length, [], false, IsUtf8, ◌≡◌, ◌++◌}
use Rattle.std.specs.String.{string_bytes}
use Rattle.spec_reader.specs.Quoted.{begins_quote}
use Rattle.order_names.specs.Spelling.{doubled}
use Rattle.order_names.proofs.spelling.push_doubled.Given as goal

-- what is put and what is left come to the whole name
abbrev pub invariant-loop-rest : goal.invariant-loop-rest
invariant-loop-rest l = record {
  utf8 : IsUtf8 l.rest;
  so_far : string_bytes l.text ++ doubled l.rest ≡ string_bytes l.fn.text ++ doubled l.fn.name;
  quote : begins_quote l.rest ≡ false → l.rest ≡ [];
}

abbrev pub decreases-loop-rest : goal.decreases-loop-rest
decreases-loop-rest l = length l.rest
