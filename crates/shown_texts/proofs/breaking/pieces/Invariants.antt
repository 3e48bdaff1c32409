use Rattle.std.proofs.Common.{◌≡◌, ◌++◌, [], drop}
use Rattle.shown_texts.specs.Breaking.{pieces}
use Rattle.shown_texts.proofs.breaking.pieces.Given as goal

-- the pieces found and those of what is left
abbrev pub invariant-loop-c : goal.invariant-loop-c
invariant-loop-c l = l.found ++ pieces l.most l.piece (drop l.c-index l.text) ≡ pieces l.most [] l.text
