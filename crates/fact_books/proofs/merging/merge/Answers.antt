use Rattle.std.proofs.Common.{refl, sym, subst}
use Rattle.fact_books.specs.Runs.{firsts, AllTo}
use Rattle.fact_books.proofs.RunLemmas.{merging-left, merging-right, right-next}
use Rattle.fact_books.proofs.merging.merge.Goals as goal
use Rattle.fact_books.proofs.merging.merge.Goals.{then-is_left_next, else-is_left_next+then-j-right}

pub add_run-requires-clause-low : goal.add_run-requires-clause-low
add_run-requires-clause-low c = elim c.if-is_left_next.branch [
  | then-is_left_next w ↦ subst (λ r. AllTo r.first (firsts c.runs.out.items)) (sym w.run-is)
      (c.runs.invariant.left_low _ (w.if-is_left_next.ensures.yes refl).there)
  | else-is_left_next+then-j-right w ↦ subst (λ r. AllTo r.first (firsts c.runs.out.items)) (sym w.run-is) (c.runs.invariant.right_low _ w.if-j-right.true)
]

pub runs-preserved : goal.runs-preserved
runs-preserved c = let a = c.in_ok-at.ensures in elim c.if-is_left_next.branch [
  | then-is_left_next w ↦ rw (w.i-is, w.j-is)
      (merging-left _ _ _ _ _ _ _ _ c.runs.invariant (w.if-is_left_next.ensures.yes refl) c.requires.left_rising w.run-is a.facts a.rising a.low a.sound a.from)
  | else-is_left_next+then-j-right w ↦ rw (w.i-is, w.j-is)
      (merging-right _ _ _ _ _ _ _ _ c.runs.invariant
      (right-next _ _ _ _ (w.if-is_left_next.ensures.no refl) w.if-j-right.true) c.requires.right_rising w.run-is a.facts a.rising a.low a.sound a.from)
]
