use Rattle.spec_findings.proofs.PieceLemmas.{passed-more, passed-shorter}
use Rattle.spec_findings.proofs.pieces.piece_len.Goals as goal

pub piece-preserved-in-Blank : goal.piece-preserved-in-Blank
piece-preserved-in-Blank c =
    passed-more c.args.text.now c.piece.at c.in-Blank.len c.piece.rest.now c.split_at.result.1.now c.piece.invariant c.in-Blank.ensures.fits
    c.split_at.ensures.back

pub piece-smaller-in-Blank : goal.piece-smaller-in-Blank
piece-smaller-in-Blank c = passed-shorter c.in-Blank.len c.piece.rest.now c.split_at.result.1.now c.in-Blank.ensures.fits c.split_at.ensures.back
