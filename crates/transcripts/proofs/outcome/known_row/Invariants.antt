use Rattle.std.proofs.Common.{All, take}
use Rattle.events.specs.Fits.{CellFits}
use Rattle.transcripts.proofs.outcome.known_row.Given as goal

-- the values so far fit
abbrev pub invariant-loop-value : goal.invariant-loop-value
invariant-loop-value l = All CellFits (take l.value-index l.values)
