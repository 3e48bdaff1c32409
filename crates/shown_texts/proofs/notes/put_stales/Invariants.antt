use Rattle.std.proofs.Common.{◌≡◌, ◌++◌, flat_map, drop}
use Rattle.shown_texts.specs.Lanes.{stale_notes}
use Rattle.shown_texts.proofs.notes.put_stales.Given as goal

-- with what is told of those that are left it is what is told of all
abbrev pub invariant-loop-stale : goal.invariant-loop-stale
invariant-loop-stale l =
    l.cells ++ flat_map (stale_notes l.frame l.steps l.writer l.session l.rail) (drop l.stale-index l.stales)
    ≡ l.fn.cells ++ flat_map (stale_notes l.frame l.steps l.writer l.session l.rail) l.stales
