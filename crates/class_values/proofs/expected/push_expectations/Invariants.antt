use Rattle.std.specs.Prelude.{◌≡◌, ◌++◌, codes, take}
use Rattle.std.specs.List.{join_by}
use Rattle.class_values.specs.Expected.{expected_json}
use Rattle.class_values.proofs.expected.push_expectations.Given as goal

-- the first expectations are pushed
abbrev pub invariant-loop-place : goal.invariant-loop-place
invariant-loop-place l = l.out.items ≡ l.fn.out.items ++ (l.label ++ codes "[") ++ join_by (expected_json l.rows) (codes ",") (take l.place l.expectations)
