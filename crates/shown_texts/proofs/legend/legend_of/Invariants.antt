use Rattle.std.proofs.Common.{◌≡◌, ◌++◌, drop}
use Rattle.shown_texts.specs.Pages.{legend_from}
use Rattle.shown_texts.proofs.legend.legend_of.Given as goal

-- those put and those left
abbrev pub invariant-loop-step : goal.invariant-loop-step
invariant-loop-step l = l.lines ++ legend_from l.statements l.moments l.most l.step (drop l.step l.names) ≡ legend_from l.statements l.moments l.most 0 l.names
