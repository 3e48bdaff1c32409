use Rattle.std.proofs.Common.{◌≡◌, ◌++◌, map, take}
use Rattle.class_texts.specs.Levels.{letter_line}
use Rattle.class_texts.proofs.levels.put_letters.Given as goal

-- the lines of the letters passed are put
abbrev pub invariant-loop-letter : goal.invariant-loop-letter
invariant-loop-letter l =
    l.lines ≡ l.fn.lines ++ map (letter_line l.widths.0 l.widths.1 l.serializable l.committed) (take l.letter-index l.letters)
