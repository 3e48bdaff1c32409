use Rattle.std.proofs.Common.{◌≡◌, ◌++◌, flat_map, take}
use Rattle.shown_texts.specs.Lanes.{hop_notes}
use Rattle.shown_texts.proofs.notes.put_hops.Given as goal

-- the edges passed are put
abbrev pub invariant-loop-hop : goal.invariant-loop-hop
invariant-loop-hop l = l.cells ≡ l.fn.cells ++ flat_map (hop_notes l.frame l.rail) (take l.hop-index l.hops)
