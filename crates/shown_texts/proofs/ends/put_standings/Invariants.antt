use Rattle.std.proofs.Common.{◌≡◌, ◌++◌, drop}
use Rattle.shown_texts.specs.Pages.{standing_from}
use Rattle.shown_texts.proofs.ends.put_standings.Given as goal

-- those put and those left
abbrev pub invariant-loop-session : goal.invariant-loop-session
invariant-loop-session l = l.lines ++ standing_from l.frame l.session (drop l.session l.standings) ≡ l.fn.lines ++ standing_from l.frame 0 l.standings
