use Rattle.std.specs.Prelude.{◌≡◌, ◌++◌, codes, take}
use Rattle.std.specs.List.{join_by}
use Rattle.class_values.specs.Class.{range_json}
use Rattle.class_values.proofs.rows.push_ranks.Given as goal

-- the first ranges are pushed
abbrev pub invariant-loop-place : goal.invariant-loop-place
invariant-loop-place l = l.out.items ≡ l.fn.out.items ++ (l.label ++ codes "[") ++ join_by range_json (codes ",") (take l.place l.runs)
