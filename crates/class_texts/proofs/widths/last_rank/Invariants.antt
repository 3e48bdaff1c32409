use Rattle.std.proofs.Common.{◌≡◌, map, drop}
use Rattle.class_texts.specs.Pages.{largest, last_rank, rank_of}
use Rattle.class_texts.proofs.widths.last_rank.Given as goal

-- the largest of those passed and those left
abbrev pub invariant-loop-row : goal.invariant-loop-row
invariant-loop-row l = largest l.last (map rank_of (drop l.row-index l.rows)) ≡ last_rank l.rows
