use Rattle.std.specs.Prelude.{◌≡◌, ◌++◌, codes, take}
use Rattle.std.specs.List.{join_by}
use Rattle.class_values.specs.Class.{seen_json}
use Rattle.class_values.proofs.rows.push_seen.Given as goal

-- the first looks are pushed
abbrev pub invariant-loop-place : goal.invariant-loop-place
invariant-loop-place l = l.out.items ≡ l.fn.out.items ++ (l.label ++ codes "[") ++ join_by (seen_json l.steps l.class) (codes ",") (take l.place l.looks)
