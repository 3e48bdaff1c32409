use Rattle.std.proofs.Common.{◌≡◌, ◌++◌}
use Rattle.lock_queues.proofs.modes.listed.Given as goal

abbrev pub invariant-loop-resource : goal.invariant-loop-resource
invariant-loop-resource l = l.list.items ++ l.resource-iterator ≡ l.all
