use Rattle.std.proofs.Common.{◌≡◌, ◌++◌, flat_map, map, take}
use Rattle.class_texts.specs.Beneath.{behind_comma}
use Rattle.class_texts.proofs.rows.put_others.Given as goal

-- the rows passed are put
abbrev pub invariant-loop-row : goal.invariant-loop-row
invariant-loop-row l = l.line ≡ l.fn.line ++ flat_map behind_comma (map (λ r. r.now) (take l.row-index l.rows))
