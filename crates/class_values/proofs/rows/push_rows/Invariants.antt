use Rattle.std.specs.Prelude.{◌≡◌, ◌++◌, drop}
use Rattle.class_values.specs.Class.{classes_from}
use Rattle.class_values.proofs.rows.push_rows.Given as goal

-- the classes pushed and those left
abbrev pub invariant-loop-place : goal.invariant-loop-place
invariant-loop-place l = l.out.items ++ classes_from l.page l.place (drop l.place l.rows) ≡ l.fn.out.items ++ classes_from l.page 0 l.rows
