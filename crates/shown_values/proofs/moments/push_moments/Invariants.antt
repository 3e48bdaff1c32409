use Rattle.std.specs.Prelude.{◌≡◌, ◌++◌, codes, take}
use Rattle.std.specs.List.{join_by}
use Rattle.shown_values.specs.Moments.{moment_json}
use Rattle.shown_values.proofs.moments.push_moments.Given as goal

-- the first moments are pushed
abbrev pub invariant-loop-place : goal.invariant-loop-place
invariant-loop-place l =
    l.out.items ≡ l.fn.out.items ++ (l.label ++ codes "[") ++ join_by (moment_json l.tables l.steps) (codes ",") (take l.place l.moment-items)
