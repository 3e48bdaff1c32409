use Rattle.std.proofs.Common.{All, take}
use Rattle.book_format.specs.Pieces.{IsUtf8Told}
use Rattle.book_format.proofs.pieces.known_texts.Given as goal

-- the first texts are UTF-8
abbrev pub invariant-loop-outcome : goal.invariant-loop-outcome
invariant-loop-outcome l = All IsUtf8Told (take l.outcome-index l.outcomes)
