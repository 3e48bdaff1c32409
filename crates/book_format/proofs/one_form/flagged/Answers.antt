use Rattle.std.proofs.Common.{sym, ap, ◌∙◌, subst, ◌+◌, [], rules}
use Rattle.std.proofs.lemmas.List.{get_or_default}
use Rattle.book_format.proofs.NumberingLemmas.{AreFlaggedTo, flagged-push, flagged-skip}
use Rattle.book_format.proofs.one_form.flagged.Goals as goal
use Rattle.book_format.proofs.one_form.flagged.Goals.{then-flags-n+in_ok-push, else-flags-n}

-- one outcome more is looked at
pub loop-n-preserved : goal.loop-n-preserved
loop-n-preserved c =
    let outcomes = c.args.outcomes.now in
    let flags = c.args.flags.now in
    let n = c.loop-n.n in
    elim c.if-flags-n.branch [
      | then-flags-n+in_ok-push w ↦
          subst (AreFlaggedTo outcomes flags (n + 1)) (sym (ap (λ v. v.items) w.out-is ∙ w.in_ok-push.ensures.items))
          (flagged-push outcomes flags n c.loop-n.out.items w.again.result (search rules) (search rules)
          (w.again.ensures ∙ w.index-outcomes-n.is ∙ get_or_default outcomes n w.index-outcomes-n.result [] c.loop-n-test.true)
          c.loop-n.invariant)
      | else-flags-n w ↦
          subst (AreFlaggedTo outcomes flags (n + 1)) (sym (ap (λ v. v.items) w.out-is))
          (flagged-skip outcomes flags n c.loop-n.out.items (search rules) c.loop-n.invariant)
    ]
