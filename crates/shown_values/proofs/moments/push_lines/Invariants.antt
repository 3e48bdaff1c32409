use Rattle.std.specs.Prelude.{◌≡◌, ◌++◌, codes, take}
use Rattle.std.specs.List.{join_by}
use Rattle.shown_values.specs.Words.{line_json}
use Rattle.shown_values.proofs.moments.push_lines.Given as goal

-- the first lines are pushed
abbrev pub invariant-loop-place : goal.invariant-loop-place
invariant-loop-place l = l.out.items ≡ l.fn.out.items ++ (l.label ++ codes "[") ++ join_by (line_json l.steps) (codes ",") (take l.place l.events)
