use Rattle.transcripts.proofs.Walking.{all-next, all-past}
use Rattle.book_format.specs.Pieces.{IsUtf8Told}
use Rattle.book_format.proofs.pieces.known_texts.Goals as goal

-- one more text is
pub loop-outcome-preserved : goal.loop-outcome-preserved
loop-outcome-preserved c = all-next IsUtf8Told _ _ _ c.loop-outcome-test.true c.outcome-item.is c.loop-outcome.invariant c.known.ensures.utf8

-- all are
pub returns : goal.returns
returns c = all-past IsUtf8Told _ _ c.loop-outcome-test.false c.loop-outcome.invariant
