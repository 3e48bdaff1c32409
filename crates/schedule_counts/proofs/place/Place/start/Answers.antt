use Rattle.std.proofs.Common.{refl, sym, ap, ◌∙◌}
use Rattle.bound_specs.specs.Spec.{counts_of}
use Rattle.perm_ranks.specs.Blocks.{Block}
use Rattle.schedule_counts.proofs.Places.{left-start}
use Rattle.schedule_counts.proofs.place.Place.start.Goals as goal

pub returns-clause-place : goal.returns-clause-place
returns-clause-place c = record {
  counts = ap (λ (b : Block). b.left) c.block.ensures.all ∙ c.requires ∙ ap counts_of (sym (left-start c.args.spec.now.run));
  each = refl;
}

pub returns-clause-all : goal.returns-clause-all
returns-clause-all c = left-start c.args.spec.now.run
