use Rattle.std.proofs.Common.{ap, ◌∙◌}
use Rattle.lock_queues.specs.Records.{held_map}
use Rattle.lock_queues.proofs.HeldLemmas.{held-empty}
use Rattle.lock_queues.proofs.held.Held.new.Goals as goal

pub returns : goal.returns
returns c = ap held_map c.new.ensures.items ∙ held-empty
