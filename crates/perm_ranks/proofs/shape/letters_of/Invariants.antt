use Rattle.std.proofs.Common.{◌≡◌, ◌<◌, ◌^◌, length, take}
use Rattle.perm_ranks.specs.Words.{all_words}
use Rattle.perm_ranks.proofs.shape.letters_of.Given as goal

abbrev pub invariant-loop-count : goal.invariant-loop-count
invariant-loop-count l = record {
  read : l.letters ≡ take l.count-index l.counts;
  few : length (all_words l.letters) < 2 ^ 63;
}
