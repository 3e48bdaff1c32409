use Rattle.std.proofs.Common.{subst, sym}
use Rattle.std.proofs.lemmas.List.Filters.{dedup_is}
use Rattle.numbered_specs.specs.Numbers.{NamesAll}
use Rattle.numbered_specs.proofs.AskedLemmas.{names-once}
use Rattle.numbered_specs.proofs.named.all_named.Goals as goal

pub returns : goal.returns
returns c =
    subst (NamesAll c.args.spec.now.run) (sym (dedup_is _ _ _ c.dedup.ensures.filtered))
    (names-once c.args.spec.now.run c.in_ok-resources.resources.items _ c.sort_unstable.ensures.sorted c.sort_unstable.ensures.permutation
    c.in_ok-resources.ensures)
