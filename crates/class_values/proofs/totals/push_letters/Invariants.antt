use Rattle.std.specs.Prelude.{◌≡◌, ◌++◌, codes, take}
use Rattle.std.specs.List.{join_by}
use Rattle.class_values.specs.Totals.{letter_json}
use Rattle.class_values.proofs.totals.push_letters.Given as goal

-- the first letters are pushed
abbrev pub invariant-loop-place : goal.invariant-loop-place
invariant-loop-place l = l.out.items ≡ l.fn.out.items ++ join_by (letter_json l.by l.all_orders l.totals) (codes ",") (take l.place l.letters)
