use Rattle.std.proofs.Common.{length, [], false, IsUtf8, ◌≡◌}
use Rattle.std.specs.String.{string_bytes}
use Rattle.sql_grammar.specs.Lexing.{content, with_front, begins_quote}
use Rattle.sql_reader.proofs.quotes.unquoted.Given as goal

abbrev pub invariant-pairs : goal.invariant-pairs
invariant-pairs l = record {
  utf8 : IsUtf8 l.rest;
  so_far : with_front (string_bytes l.inner) (content l.rest) ≡ content l.fn.text;
  quote : begins_quote l.rest ≡ false → l.rest ≡ [];
}

abbrev pub decreases-pairs : goal.decreases-pairs
decreases-pairs l = length l.rest
