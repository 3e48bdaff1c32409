use Rattle.std.specs.Prelude.{◌≡◌, ◌++◌, codes, take}
use Rattle.std.specs.List.{join_by}
use Rattle.class_values.specs.Class.{lines_json}
use Rattle.class_values.proofs.rows.push_told.Given as goal

-- the first sessions are pushed
abbrev pub invariant-loop-place : goal.invariant-loop-place
invariant-loop-place l = l.out.items ≡ l.fn.out.items ++ (l.label ++ codes "[") ++ join_by (lines_json l.steps) (codes ",") (take l.place l.told)
