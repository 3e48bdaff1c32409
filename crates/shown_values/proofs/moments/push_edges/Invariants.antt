use Rattle.std.specs.Prelude.{◌≡◌, ◌++◌, codes, take}
use Rattle.std.specs.List.{join_by}
use Rattle.shown_values.specs.Moments.{edge_json}
use Rattle.shown_values.proofs.moments.push_edges.Given as goal

-- the first edges are pushed
abbrev pub invariant-loop-place : goal.invariant-loop-place
invariant-loop-place l = l.out.items ≡ l.fn.out.items ++ (l.label ++ codes "[") ++ join_by edge_json (codes ",") (take l.place l.edges)
