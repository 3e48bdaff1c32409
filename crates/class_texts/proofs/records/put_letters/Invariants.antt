use Rattle.std.proofs.Common.{◌≡◌, ◌++◌, flat_map, take}
use Rattle.class_texts.specs.Records.{behind_blanks}
use Rattle.class_texts.proofs.records.put_letters.Given as goal

-- the letters passed are put
abbrev pub invariant-loop-letter : goal.invariant-loop-letter
invariant-loop-letter l = l.line ≡ l.fn.line ++ flat_map (behind_blanks l.totals) (take l.letter-index l.letters)
