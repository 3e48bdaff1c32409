use Rattle.std.proofs.Common.{subst, sym}
use Rattle.std.proofs.lemmas.List.Filters.{dedup_is}
use Rattle.book_format.specs.Forms.{Rises, ComesBefore}
use Rattle.book_format.specs.Numbering.{AreFlagged}
use Rattle.book_format.proofs.NumberingLemmas.{flagged-once, rises-once}
use Rattle.book_format.proofs.one_form.named.Goals as goal

pub returns-clause-rises : goal.returns-clause-rises
returns-clause-rises c = subst (Rises ComesBefore) (sym (dedup_is _ _ _ c.dedup.ensures.filtered)) (rises-once _ c.sort_unstable.ensures.sorted)

pub returns-clause-named : goal.returns-clause-named
returns-clause-named c =
    subst (AreFlagged c.args.outcomes.now c.args.flags.now) (sym (dedup_is _ _ _ c.dedup.ensures.filtered))
    (flagged-once c.args.outcomes.now c.args.flags.now _ _ c.sort_unstable.ensures.permutation c.in_ok-named.ensures)
