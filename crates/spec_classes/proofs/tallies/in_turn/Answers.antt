use Rattle.std.proofs.Common.{rules, subst}
use Rattle.std.proofs.lemmas.List.Sorted.{IsNonDecreasingBy-from_sort_by_key}
use Rattle.std.specs.List.Sorted.{IsPermutation}
use Rattle.spec_classes.specs.declared.tallies.Tally.{Tally}
use Rattle.spec_classes.proofs.tallies.in_turn.Goals as goal

pub returns : goal.returns
returns c = record {
  same = subst (λ xs. IsPermutation xs c.sort_unstable_by_key.new.self.items) c.in_ok-some.ensures c.sort_unstable_by_key.ensures.permutation;
  sorted = IsNonDecreasingBy-from_sort_by_key (λ (t : Tally). t.first) c.sort_unstable_by_key.new.self.items c.sort_unstable_by_key.ensures.sorted (λ a r g k. search rules);
}
