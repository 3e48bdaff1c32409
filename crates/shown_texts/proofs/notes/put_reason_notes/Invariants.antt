use Rattle.std.proofs.Common.{◌≡◌, ◌++◌, flat_map, take}
use Rattle.shown_texts.specs.Lanes.{reason_note}
use Rattle.shown_texts.proofs.notes.put_reason_notes.Given as goal

-- the reasons passed are put
abbrev pub invariant-loop-edge : goal.invariant-loop-edge
invariant-loop-edge l = l.cells ≡ l.fn.cells ++ flat_map (reason_note l.frame l.rail l.word) (take l.edge-index l.edges)
