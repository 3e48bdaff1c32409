use Rattle.std.proofs.Common.{length, [], false, IsUtf8, ◌≡◌, ◌++◌}
use Rattle.std.specs.String.{string_bytes}
use Rattle.spec_reader.specs.Quoted.{begins_quote, undoubled}
use Rattle.spec_reader.proofs.quoted.undoubled.Given as goal

abbrev pub invariant-loop-rest : goal.invariant-loop-rest
invariant-loop-rest l = record {
  utf8 : IsUtf8 l.rest;
  so_far : string_bytes l.name ++ undoubled false l.rest ≡ undoubled false l.fn.text;
  quote : begins_quote l.rest ≡ false → l.rest ≡ [];
}

abbrev pub decreases-loop-rest : goal.decreases-loop-rest
decreases-loop-rest l = length l.rest
