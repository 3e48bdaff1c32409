use Rattle.std.proofs.Common.{◌≡◌, ◌+◌, ◌≤◌, drop}
use Rattle.class_texts.specs.Pages.{seen_once}
use Rattle.class_texts.proofs.head.seen_once.Given as goal

-- those passed are counted, and those left
abbrev pub invariant-loop-row : goal.invariant-loop-row
invariant-loop-row l = record { left : l.once + seen_once (drop l.row-index l.rows) ≡ seen_once l.rows; few : l.once ≤ l.row-index }
