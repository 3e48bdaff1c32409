use Rattle.std.proofs.Common.{ap, ◌∙◌, ℕ, List, slice_get}
use Rattle.spec_levels.proofs.LevelLemmas.{first-unmodelled}
use Rattle.spec_levels.proofs.spec.first_repeatable.Goals as goal

pub returns : goal.returns
returns c =
    first-unmodelled c.args.spec.now c.in_ok-lines.lines.items c.first_of.result c.requires c.in_ok-lines.ensures
    (c.first_of.ensures ∙ ap (λ (ls : List ℕ). slice_get ls 0) c.deref.ensures.value)
