use Rattle.std.specs.Prelude.{◌≡◌, ◌++◌, codes, take}
use Rattle.std.specs.List.{join_by}
use Rattle.shown_values.specs.Moments.{lock_json}
use Rattle.shown_values.proofs.show.push_locks.Given as goal

-- the first locks are pushed
abbrev pub invariant-loop-place : goal.invariant-loop-place
invariant-loop-place l = l.out.items ≡ l.fn.out.items ++ (l.label ++ codes "[") ++ join_by (lock_json l.tables) (codes ",") (take l.place l.lock-items)
