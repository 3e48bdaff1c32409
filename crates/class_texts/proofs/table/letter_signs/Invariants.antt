use Rattle.std.proofs.Common.{◌≡◌, flat_map, take}
use Rattle.std.specs.String.{string_bytes}
use Rattle.class_texts.specs.Letters.{sign}
use Rattle.class_texts.proofs.table.letter_signs.Given as goal

-- the letters passed are put
abbrev pub invariant-loop-letter : goal.invariant-loop-letter
invariant-loop-letter l = string_bytes l.text ≡ flat_map sign (take l.letter-index l.letters)
