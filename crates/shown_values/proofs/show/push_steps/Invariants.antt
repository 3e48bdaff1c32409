use Rattle.std.specs.Prelude.{◌≡◌, ◌++◌, codes, take, zip}
use Rattle.std.specs.List.{join_by}
use Rattle.shown_values.specs.Page.{step_json}
use Rattle.shown_values.proofs.show.push_steps.Given as goal

-- the first steps are pushed
abbrev pub invariant-loop-place : goal.invariant-loop-place
invariant-loop-place l =
    l.out.items ≡ l.fn.out.items ++ (l.label ++ codes "[") ++ join_by step_json (codes ",") (take l.place (zip l.names (zip l.sessions l.statements)))
