use Rattle.std.proofs.Common.{◌≡◌, map, take}
use Rattle.shown_texts.specs.Pages.{table_name}
use Rattle.shown_texts.proofs.frame.table_names.Given as goal

-- the tables passed
abbrev pub invariant-loop-one : goal.invariant-loop-one
invariant-loop-one l = l.lines ≡ map table_name (take l.one-index l.left)
