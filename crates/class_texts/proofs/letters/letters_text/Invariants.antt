use Rattle.std.proofs.Common.{◌≡◌, flat_map, take}
use Rattle.std.specs.String.{string_bytes}
use Rattle.class_texts.specs.Letters.{sign_in}
use Rattle.class_texts.proofs.letters.letters_text.Given as goal

-- the letters passed are put
abbrev pub invariant-loop-letter : goal.invariant-loop-letter
invariant-loop-letter l = string_bytes l.text ≡ flat_map (sign_in l.letters) (take l.letter-index l.letter-items)
