use Rattle.std.proofs.Common.{◌≡◌, map, drop}
use Rattle.class_texts.specs.Pages.{count_of, largest, most_counted}
use Rattle.class_texts.proofs.widths.most_counted.Given as goal

-- the largest of those passed and those left
abbrev pub invariant-loop-row : goal.invariant-loop-row
invariant-loop-row l = largest l.most (map count_of (drop l.row-index l.rows)) ≡ most_counted l.rows
