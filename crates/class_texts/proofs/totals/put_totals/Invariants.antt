use Rattle.std.proofs.Common.{◌≡◌, ◌++◌, map, take}
use Rattle.class_texts.specs.Pages.{total_line}
use Rattle.class_texts.proofs.totals.put_totals.Given as goal

-- the lines of the letters passed are put
abbrev pub invariant-loop-letter : goal.invariant-loop-letter
invariant-loop-letter l = l.lines ≡ l.fn.lines ++ map (total_line l.widths l.is_sample l.totals) (take l.letter-index l.letters)
