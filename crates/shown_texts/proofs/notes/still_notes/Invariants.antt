use Rattle.std.proofs.Common.{◌≡◌, flat_map, take}
use Rattle.shown_texts.specs.Lanes.{still_notes}
use Rattle.shown_texts.proofs.notes.still_notes.Given as goal

-- what is told of those passed is put
abbrev pub invariant-loop-still : goal.invariant-loop-still
invariant-loop-still l = l.cells ≡ flat_map (still_notes l.frame l.session l.rail) (take l.still-index l.stills)
