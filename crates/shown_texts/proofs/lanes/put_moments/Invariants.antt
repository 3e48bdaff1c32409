use Rattle.std.proofs.Common.{◌≡◌, ◌++◌, drop}
use Rattle.shown_texts.specs.Lanes.{all_rows}
use Rattle.shown_texts.proofs.lanes.put_moments.Given as goal

-- the rows put and those of what is left
abbrev pub invariant-loop-moment : goal.invariant-loop-moment
invariant-loop-moment l =
    l.rows ++ all_rows l.frame l.steps l.rails (drop l.moment-index l.moments)
    ≡ l.fn.rows ++ all_rows l.frame l.steps l.fn.rails l.moments
