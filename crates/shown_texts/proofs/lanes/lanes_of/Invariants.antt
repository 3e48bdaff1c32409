use Rattle.std.proofs.Common.{◌≡◌, ◌++◌, drop}
use Rattle.shown_texts.specs.Lanes.{lanes_from}
use Rattle.shown_texts.proofs.lanes.lanes_of.Given as goal

-- the lanes made and those left
abbrev pub invariant-loop-session : goal.invariant-loop-session
invariant-loop-session l = l.lanes ++ lanes_from l.frame l.steps l.moment l.session (drop l.session l.rails) ≡ lanes_from l.frame l.steps l.moment 0 l.rails
