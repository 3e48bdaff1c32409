use Rattle.std.proofs.Common.{◌≡◌, ◌++◌, drop}
use Rattle.shown_texts.specs.Breaking.{filled}
use Rattle.shown_texts.specs.Characters.{blanks}
use Rattle.shown_texts.proofs.breaking.filled.Given as goal

-- the lines made and those of what is left
abbrev pub invariant-loop-piece : goal.invariant-loop-piece
invariant-loop-piece l = l.lines ++ filled l.width l.margin l.line (drop l.piece-index l.pieces) ≡ filled l.width l.margin (blanks l.front) l.pieces
