use Rattle.std.proofs.Common.{length}
use Rattle.spec_findings.proofs.PieceLemmas.{HasPassed}
use Rattle.spec_findings.proofs.pieces.piece_len.Given as goal

abbrev pub invariant-piece : goal.invariant-piece
invariant-piece l = HasPassed l.fn.text l.at l.rest

abbrev pub decreases-piece : goal.decreases-piece
decreases-piece l = length l.rest
