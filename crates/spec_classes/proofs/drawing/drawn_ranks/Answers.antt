use Rattle.std.proofs.Common.{rules, ◌∙◌, ℕ, ap, subst}
use Rattle.std.proofs.lemmas.List.Sorted.{IsNonDecreasingBy-from_sort_by_key}
use Rattle.std.specs.List.Sorted.{IsPermutation}
use Rattle.spec_classes.specs.Drawing.{drawn_by}
use Rattle.spec_classes.proofs.drawing.drawn_ranks.Goals as goal

pub returns : goal.returns
returns c =
    let sorted = c.sort_unstable_by_key.new.self.items in record {
      some = c.requires;
      same =
          subst (λ l. IsPermutation l sorted) (c.in_ok-ranks.ensures ∙ ap (λ s. drawn_by s c.args.bound c.args.count) c.seed_from_u64.ensures.same)
          c.sort_unstable_by_key.ensures.permutation;
      rising = IsNonDecreasingBy-from_sort_by_key (λ (r : ℕ). r) sorted c.sort_unstable_by_key.ensures.sorted (λ a r g k. search rules);
    }
