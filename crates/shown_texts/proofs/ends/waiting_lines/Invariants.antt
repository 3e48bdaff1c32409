use Rattle.std.proofs.Common.{◌≡◌, ◌++◌, drop}
use Rattle.shown_texts.specs.Pages.{waiting_from}
use Rattle.shown_texts.proofs.ends.waiting_lines.Given as goal

-- those passed and those left
abbrev pub invariant-loop-session : goal.invariant-loop-session
invariant-loop-session l = l.lines ++ waiting_from l.frame l.session (drop l.session l.standings) ≡ waiting_from l.frame 0 l.standings
