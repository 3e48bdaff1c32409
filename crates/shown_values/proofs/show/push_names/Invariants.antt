use Rattle.std.specs.Prelude.{◌≡◌, ◌++◌, codes, take}
use Rattle.std.specs.List.{join_by}
use Rattle.shown_values.specs.Strings.{string_json}
use Rattle.shown_values.proofs.show.push_names.Given as goal

-- the first names are pushed
abbrev pub invariant-loop-place : goal.invariant-loop-place
invariant-loop-place l = l.out.items ≡ l.fn.out.items ++ (l.label ++ codes "[") ++ join_by string_json (codes ",") (take l.place l.names)
