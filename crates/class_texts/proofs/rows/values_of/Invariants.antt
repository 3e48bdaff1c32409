use Rattle.std.proofs.Common.{◌≡◌, map, take}
use Rattle.class_texts.specs.Beneath.{values_of}
use Rattle.class_texts.proofs.rows.values_of.Given as goal

-- the values of the rows passed
abbrev pub invariant-loop-row : goal.invariant-loop-row
invariant-loop-row l = map (λ r. r.now) l.all.items ≡ map values_of (take l.row-index l.rows)
