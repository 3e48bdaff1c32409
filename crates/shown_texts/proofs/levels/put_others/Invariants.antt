use Rattle.std.proofs.Common.{◌≡◌, ◌++◌, flat_map, take}
use Rattle.shown_texts.specs.Levels.{behind_comma}
use Rattle.shown_texts.proofs.levels.put_others.Given as goal

-- the numbers passed are put
abbrev pub invariant-loop-number : goal.invariant-loop-number
invariant-loop-number l = l.line ≡ l.fn.line ++ flat_map behind_comma (take l.number-index l.numbers)
