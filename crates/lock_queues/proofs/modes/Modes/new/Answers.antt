use Rattle.std.proofs.Common.{◌∙◌}
use Rattle.lock_queues.specs.Records.{modes_map}
use Rattle.lock_queues.proofs.ModesLemmas.{modes-empty}
use Rattle.lock_queues.proofs.modes.Modes.new.Goals as goal

pub returns : goal.returns
returns c = (λ i. modes_map (c.new.ensures i) (c.new-2.ensures i)) ∙ modes-empty
