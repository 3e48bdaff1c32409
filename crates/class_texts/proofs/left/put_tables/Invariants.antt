use Rattle.std.proofs.Common.{◌≡◌, ◌++◌, drop}
use Rattle.class_texts.specs.Beneath.{tables_from}
use Rattle.class_texts.proofs.left.put_tables.Given as goal

-- those put and those left
abbrev pub invariant-loop-table : goal.invariant-loop-table
invariant-loop-table l = l.lines ++ tables_from l.margin l.left l.table (drop l.table l.tables) ≡ l.fn.lines ++ tables_from l.margin l.left 0 l.tables
