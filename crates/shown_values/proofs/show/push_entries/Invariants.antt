use Rattle.std.specs.Prelude.{◌≡◌, ◌++◌, codes, take}
use Rattle.std.specs.List.{join_by}
use Rattle.shown_values.specs.Page.{entry_json}
use Rattle.shown_values.proofs.show.push_entries.Given as goal

-- the first rows are pushed
abbrev pub invariant-loop-place : goal.invariant-loop-place
invariant-loop-place l = l.out.items ≡ l.fn.out.items ++ (l.label ++ codes "[") ++ join_by entry_json (codes ",") (take l.place l.entries)
