use Rattle.std.proofs.Common.{◌≡◌, drop}
use Rattle.class_texts.specs.Legend.{firsts_of, with_orders}
use Rattle.class_texts.proofs.legend.firsts_of.Given as goal

-- the classes passed and those left
abbrev pub invariant-loop-row : goal.invariant-loop-row
invariant-loop-row l = with_orders l.found (drop l.row-index l.rows) ≡ firsts_of l.rows
