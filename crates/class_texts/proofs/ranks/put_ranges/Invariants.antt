use Rattle.std.proofs.Common.{◌≡◌, ◌++◌, flat_map, take}
use Rattle.class_texts.specs.Beneath.{behind_range}
use Rattle.class_texts.proofs.ranks.put_ranges.Given as goal

-- the ranges passed are put
abbrev pub invariant-loop-run : goal.invariant-loop-run
invariant-loop-run l = l.line ≡ l.fn.line ++ flat_map behind_range (take l.run-index l.runs)
