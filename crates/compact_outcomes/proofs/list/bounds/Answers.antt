use Rattle.std.proofs.Common.{◌≡◌, ◌<◌, ◌+◌, ◌-◌, ◌∙◌, sym, rules, length}
use Rattle.compact_outcomes.proofs.PieceLemmas.{start-first, start-next}
use Rattle.compact_outcomes.proofs.list.bounds.Goals as goal
use Rattle.compact_outcomes.proofs.list.bounds.Goals.{then-place-eq0, else-place-eq0}

pub returns-clause-start : goal.returns-clause-start
returns-clause-start c = elim c.if-place-eq0.branch [
  | then-place-eq0 w ↦ rw (w.start-is, w.if-place-eq0.true) (sym (start-first _))
  | else-place-eq0 w ↦
      let one : (c.args.place - 1) + 1 ≡ c.args.place = search rules in
      let lt : (c.args.place - 1) + 1 < length c.args.ends.now = rw one c.requires in
      let e = rw one at (start-next 0 c.args.ends.now (c.args.place - 1) 0 lt) in
      w.start-is ∙ sym e
]
