use Rattle.std.proofs.Common.{◌≡◌, ◌++◌, flat_map, take}
use Rattle.shown_texts.specs.Pages.{table_lines}
use Rattle.shown_texts.proofs.ends.put_tables.Given as goal

-- the tables passed are put
abbrev pub invariant-loop-one : goal.invariant-loop-one
invariant-loop-one l = l.lines ≡ l.fn.lines ++ flat_map table_lines (take l.one-index l.left)
