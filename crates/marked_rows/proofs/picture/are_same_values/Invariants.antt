use Rattle.std.proofs.Common.{◌≡◌, take}
use Rattle.marked_rows.proofs.picture.are_same_values.Given as goal

abbrev pub invariant-loop-index : goal.invariant-loop-index
invariant-loop-index l = take l.index l.values ≡ take l.index l.others
