use Rattle.std.specs.Prelude.{◌≡◌, ◌++◌, drop}
use Rattle.class_values.specs.Class.{tables_from}
use Rattle.class_values.proofs.left.push_tables.Given as goal

-- the tables pushed and those left
abbrev pub invariant-loop-place : goal.invariant-loop-place
invariant-loop-place l = l.out.items ++ tables_from l.left l.place (drop l.place l.tables) ≡ l.fn.out.items ++ tables_from l.left 0 l.tables
