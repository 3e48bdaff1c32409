use Rattle.std.specs.Prelude.{◌≡◌, ◌++◌, codes, decimal, take}
use Rattle.std.specs.List.{join_by}
use Rattle.shown_values.proofs.levels.push_line_numbers.Given as goal

-- the first lines are pushed
abbrev pub invariant-loop-place : goal.invariant-loop-place
invariant-loop-place l = l.out.items ≡ l.fn.out.items ++ (l.label ++ codes "[") ++ join_by decimal (codes ",") (take l.place l.lines)
