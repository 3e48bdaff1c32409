use Rattle.std.proofs.Common.{◌≡◌, drop}
use Rattle.statement_evaluation.specs.Effect.{sort_cmp}
use Rattle.statement_evaluation.proofs.sorting.compare.Given as goal

-- the columns so far tie
abbrev pub invariant-loop-key : goal.invariant-loop-key
invariant-loop-key l = sort_cmp l.keys l.x l.y ≡ sort_cmp (drop l.key-index l.keys) l.x l.y
