use Rattle.std.specs.Prelude.{◌++◌, codes}
use Rattle.shown_values.specs.Page.{open_of}
use Rattle.shown_values.proofs.Opening.{ArePushed}
use Rattle.shown_values.proofs.show.push_open.Given as goal

-- the first sessions are pushed that have not ended
abbrev pub invariant-loop-session : goal.invariant-loop-session
invariant-loop-session l = ArePushed open_of l.place (l.fn.out.items ++ (l.label ++ codes "[")) l.out.items l.session l.standing-items
