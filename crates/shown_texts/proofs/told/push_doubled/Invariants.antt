use Rattle.std.proofs.Common.{length, [], false, IsUtf8, ◌≡◌, ◌++◌, flat_map}
use Rattle.std.specs.String.{string_bytes}
use Rattle.transcripts.specs.Text.{doubled}
use Rattle.shown_texts.specs.Words.{begins_quote}
use Rattle.shown_texts.proofs.told.push_doubled.Given as goal

-- what is put and what is left come to the whole word
abbrev pub invariant-loop-rest : goal.invariant-loop-rest
invariant-loop-rest l = record {
  utf8 : IsUtf8 l.rest;
  so_far : string_bytes l.text ++ flat_map doubled l.rest ≡ string_bytes l.fn.text ++ flat_map doubled l.fn.word;
  quote : begins_quote l.rest ≡ false → l.rest ≡ [];
}

abbrev pub decreases-loop-rest : goal.decreases-loop-rest
decreases-loop-rest l = length l.rest
