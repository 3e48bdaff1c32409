use Rattle.std.specs.Prelude.{◌≡◌, ◌++◌, codes, take}
use Rattle.std.specs.List.{join_by}
use Rattle.class_values.specs.Page.{look_json}
use Rattle.class_values.proofs.classes.push_looks.Given as goal

-- the first looks are pushed
abbrev pub invariant-loop-place : goal.invariant-loop-place
invariant-loop-place l = l.out.items ≡ l.fn.out.items ++ (l.label ++ codes "[") ++ join_by look_json (codes ",") (take l.place l.looks)
