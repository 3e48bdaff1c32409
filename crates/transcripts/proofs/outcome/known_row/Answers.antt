use Rattle.events.specs.Fits.{CellFits}
use Rattle.transcripts.proofs.Walking.{all-next, all-past}
use Rattle.transcripts.proofs.outcome.known_row.Goals as goal

-- one more value fits
pub loop-value-preserved : goal.loop-value-preserved
loop-value-preserved c = all-next CellFits _ _ _ c.loop-value-test.true c.value-item.is c.loop-value.invariant c.known_value.ensures

-- all values do
pub returns : goal.returns
returns c = all-past CellFits _ _ c.loop-value-test.false c.loop-value.invariant
