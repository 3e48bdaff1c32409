use Rattle.step_reducer.proofs.Covering.{swap-covers}
use Rattle.step_reducer.proofs.laws.swaps_cover_blocks.Goals as goal

pub returns : goal.returns
returns c = λ spec w shared block r s k is le has_r has_s swap. swap-covers spec w shared block is r s k le has_r has_s swap
